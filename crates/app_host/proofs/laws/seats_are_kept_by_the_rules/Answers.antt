use Rattle.app_host.proofs.Rules.{opened_is_started, opened_leaves, opened_settles, tells_by_name, told_is_given, told_leaves, told_settles, silence_is_given, silence_leaves, closed_is_retired, closed_leaves, no_tables_go}
use Rattle.app_host.proofs.laws.seats_are_kept_by_the_rules.Goals as goal

pub returns-clause-opening_starts : goal.returns-clause-opening_starts
returns-clause-opening_starts c = opened_is_started

pub returns-clause-opening_leaves : goal.returns-clause-opening_leaves
returns-clause-opening_leaves c = opened_leaves

pub returns-clause-opening_settles : goal.returns-clause-opening_settles
returns-clause-opening_settles c = opened_settles

pub returns-clause-telling_is_by_name : goal.returns-clause-telling_is_by_name
returns-clause-telling_is_by_name c = tells_by_name

pub returns-clause-telling_answers : goal.returns-clause-telling_answers
returns-clause-telling_answers c = told_is_given

pub returns-clause-telling_leaves : goal.returns-clause-telling_leaves
returns-clause-telling_leaves c = told_leaves

pub returns-clause-telling_settles : goal.returns-clause-telling_settles
returns-clause-telling_settles c = told_settles

pub returns-clause-silence_answers : goal.returns-clause-silence_answers
returns-clause-silence_answers c = silence_is_given

pub returns-clause-silence_leaves : goal.returns-clause-silence_leaves
returns-clause-silence_leaves c = silence_leaves

pub returns-clause-closing_retires : goal.returns-clause-closing_retires
returns-clause-closing_retires c = closed_is_retired

pub returns-clause-closing_leaves : goal.returns-clause-closing_leaves
returns-clause-closing_leaves c = closed_leaves

pub returns-clause-no_tables_go : goal.returns-clause-no_tables_go
returns-clause-no_tables_go c = no_tables_go
