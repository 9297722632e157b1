-- What the contracts of expectations cite.
pub mod Expected
pub mod Reading
pub mod Judged
pub mod Arrivals
pub mod ProbedLine
pub mod Probes
pub mod Settled
pub mod Origin
pub mod Numbers
pub mod Untried
pub mod Telling
pub mod Warned
pub mod Outcomes
pub mod Probing
