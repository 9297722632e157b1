-- The worst of several statuses. This project's own.
use Rattle.std.specs.Prelude.{◌≡◌, ◌≤◌, ◌⊎◌, ◌==◌, if◌then◌else◌, ℕ, zero, suc, List, All, Contains, Result, Ok, Err}
use Rattle.tool_faults.specs.declared.fault.Fault.{Fault}
use Rattle.tool_faults.specs.declared.fault.Fault.TheVariants as fault

-- how bad a status is: 5 memory, 3 a file or a device, 4 a stream, any other, 6 nothing sampled, 0
abbrev pub badness : ℕ → ℕ
badness status =
    if status == 5 then 5
    else (if status == 3 then 4
    else (if status == 4 then 3
    else (if status == 6 then 1
    else (if status == 0 then 0 else 2))))

-- it is one of two statuses, and no other is worse
abbrev pub IsWorse : (one other result : ℕ) → Type 0
IsWorse one other result = ((result ≡ one) ⊎ (result ≡ other)) × (badness one ≤ badness result) × (badness other ≤ badness result)

-- none of these statuses is worse, and it is one of them, or 0
abbrev pub IsWorst : List ℕ → ℕ → Type 0
IsWorst statuses result = (All (λ status. badness status ≤ badness result) statuses) × ((result ≡ 0) ⊎ Contains statuses result)

-- the result of trials with this worst status
abbrev pub answer_by : ℕ → Result (Unit {0}) Fault
answer_by zero = Ok tt
answer_by (suc n) = Err (fault.Reported (suc n))
