use Rattle.app_host.proofs.Published.{nothing_published, goes_on, ticks_have_room, published_is_given, published_leaves, published_settles}
use Rattle.app_host.proofs.publishing.publishing_is_by_the_rules.Goals as goal

pub returns-clause-nothing : goal.returns-clause-nothing
returns-clause-nothing c = nothing_published

pub returns-clause-goes_on : goal.returns-clause-goes_on
returns-clause-goes_on c = goes_on

pub returns-clause-ticks_have_room : goal.returns-clause-ticks_have_room
returns-clause-ticks_have_room c = ticks_have_room

pub returns-clause-answers : goal.returns-clause-answers
returns-clause-answers c = λ seat name packets before after p. published_is_given seat packets before after p name

pub returns-clause-leaves : goal.returns-clause-leaves
returns-clause-leaves c = published_leaves

pub returns-clause-settles : goal.returns-clause-settles
returns-clause-settles c = published_settles
