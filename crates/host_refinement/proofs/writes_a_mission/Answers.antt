use Rattle.host_refinement.proofs.Missions.{writes_by_bytes, writes_by_texts, writes_with_fixed_tables}
use Rattle.host_refinement.proofs.writes_a_mission.Goals as goal

pub returns-clause-bytes : goal.returns-clause-bytes
returns-clause-bytes c m = writes_by_bytes m

pub returns-clause-texts : goal.returns-clause-texts
returns-clause-texts c m = writes_by_texts m

pub returns-clause-fixed : goal.returns-clause-fixed
returns-clause-fixed c m = writes_with_fixed_tables m
