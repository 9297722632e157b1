-- Which comparisons fail. This project's own.
use Rattle.std.specs.Prelude.{Bool, ◌||◌}
use Rattle.std.specs.List.{list_any}
use Rattle.run_comparison.specs.declared.asked.FailOn.{FailOn}
use Rattle.run_comparison.specs.declared.asked.FailOn.TheVariants as on
use Rattle.run_comparison.specs.declared.comparison.Comparison.{Comparison}
use Rattle.run_comparison.specs.declared.met.MetRecord.{MetRecord}

-- whether the requests, or the events, differ in some record
abbrev pub do_requests_differ : Comparison → Bool
do_requests_differ found = list_any (λ (met : MetRecord). met.do_requests_differ) found.records.items

abbrev pub do_events_differ : Comparison → Bool
do_events_differ found = list_any (λ (met : MetRecord). met.do_events_differ) found.records.items

abbrev pub fails_on : FailOn → Comparison → Bool
fails_on on.NewRequests found = found.asked.is_new
fails_on on.Requests found = do_requests_differ found
fails_on on.Differences found = do_requests_differ found || do_events_differ found
