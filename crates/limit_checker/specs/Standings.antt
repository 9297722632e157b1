-- A rule's state and last result, as in the model.
use Rattle.lc_model.specs.Events.Request as request
use Rattle.limit_engine.specs.declared.engine.Standing.{Standing}

-- The program's standing as one of the model.
abbrev pub standing_of : Standing → request.Standing
standing_of standing = record { state = standing.state; last = standing.last }
