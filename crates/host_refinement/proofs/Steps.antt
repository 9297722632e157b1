-- Steps of the host in numbers that go with steps of the world.
use Rattle.std.proofs.Common.{◌≡◌, ℕ, List, [], ◌∷◌, ◌++◌, refl, ap, sym, ◌∙◌, Option, Some, None, Result, Ok, Err}
use Rattle.std.proofs.lemmas.List.{append_assoc}
use Rattle.lc_model.specs.declared.record.Moment.{Moment}
use Rattle.lc_model.specs.Name.{host_name}
use Rattle.lc_model.specs.Packet.{function_code}
use Rattle.lc_model.specs.Refusal.{Refusal}
use Rattle.lc_model.specs.Tables.Interpretation.{Interpretation}
use Rattle.lc_model.specs.Events.Request.{Request, Service, command_done, command_refused}
use Rattle.lc_model.specs.Host.Schedule.{Schedule}
use Rattle.lc_model.specs.Host.World.{World, Running, Lc}
use Rattle.lc_model.specs.Host.React.{Step, answered}
use Rattle.lc_model.specs.Host.Run.{Sent, delivered, all_delivered}
use Rattle.lc_model.specs.Kept.Effort.{Effort}
use Rattle.lc_model.specs.Kept.Summary.{counts_of}
use Rattle.lc_model.specs.Kept.Executive.{Member, Executive, Written, followed, serviced, told_by_host, answered_now}
use Rattle.host_refinement.specs.Keeping.{App, Queues, no_packets, Standing, standing_of, events_of, Numbers, numbers_by, numbers_of, executive_of, IsSeated}
use Rattle.host_refinement.proofs.Deliveries.{AreOf, all_stand, sent_alike}

-- ---- requests one list after the other

pub delivered_in_parts : {Image : Type 0} (moment : Moment) (first more : List Request) (w : World Image) →
    let a : Sent Image = all_delivered moment first w in
    let b : Sent Image = all_delivered moment more a.0 in
    all_delivered moment (first ++ more) w ≡ (b.0, a.1 ++ b.1)
delivered_in_parts moment [] more w = refl
delivered_in_parts {Image} moment (request ∷ first) more w =
    let one : Sent Image = delivered moment request w in
    let a : Sent Image = all_delivered moment first one.0 in
    let b : Sent Image = all_delivered moment more a.0 in
    ap (λ (s : Sent Image). (s.0, one.1 ++ s.1)) (delivered_in_parts moment first more one.0)
    ∙ ap (λ packets. (b.0, packets)) (sym (append_assoc one.1 a.1 b.1))

-- ---- a world by the application that runs or does not

module _ {Image : Type 0} where
  pub by_lc : (P : World Image → Type 0) →
      ((w : World Image) (spares : ℕ) → P (record w { lc = record { running = None; spares = spares } })) →
      ((w : World Image) (spares : ℕ) (r : Running (Lc Image)) → P (record w { lc = record { running = Some r; spares = spares } })) →
      (w : World Image) → P w
  by_lc P none some w = by_running w.lc.running
    where
      by_running : (o : Option (Running (Lc Image))) → P (record w { lc = record { running = o; spares = w.lc.spares } })
      by_running None = none w w.lc.spares
      by_running (Some r) = some w w.lc.spares r

  pub by_sch : (P : World Image → Type 0) →
      ((w : World Image) (spares : ℕ) → P (record w { sch = record { running = None; spares = spares } })) →
      ((w : World Image) (spares : ℕ) (r : Running ℕ) → P (record w { sch = record { running = Some r; spares = spares } })) →
      (w : World Image) → P w
  by_sch P none some w = by_running w.sch.running
    where
      by_running : (o : Option (Running ℕ)) → P (record w { sch = record { running = o; spares = w.sch.spares } })
      by_running None = none w w.sch.spares
      by_running (Some r) = some w w.sch.spares r

  pub by_counter : (P : World Image → Type 0) →
      ((w : World Image) (spares : ℕ) → P (record w { counter = record { running = None; spares = spares } })) →
      ((w : World Image) (spares : ℕ) (r : Running ℕ) → P (record w { counter = record { running = Some r; spares = spares } })) →
      (w : World Image) → P w
  by_counter P none some w = by_running w.counter.running
    where
      by_running : (o : Option (Running ℕ)) → P (record w { counter = record { running = o; spares = w.counter.spares } })
      by_running None = none w w.counter.spares
      by_running (Some r) = some w w.counter.spares r

-- ---- steps

module _ {Image : Type 0} (images : Interpretation Image) (schedule : Schedule) where
  -- the executive of a world
  abbrev pub kept : Effort → List Member → List (Option App) → World Image → Executive Image
  kept effort stock order w = executive_of images schedule stock order no_packets (numbers_of images schedule effort w)

  -- the executive afterwards is the world's, and the same is written
  pub record StepKept (moment : Moment) (step : Step Image) (s : Written Image) : Type 0 where
    pub stock : List Member
    pub order : List (Option App)
    pub effort : Effort
    pub seated : IsSeated images schedule (standing_of step.0) stock order
    pub same : s ≡ (kept effort stock order (all_delivered moment step.1 step.0).0, (all_delivered moment step.1 step.0).1)

  -- HOST's own events
  pub told : (effort : Effort) (moment : Moment) (requests : List Request) (stock : List Member) (order : List (Option App)) (queues : Queues) (w : World Image) → AreOf host_name requests →
      told_by_host moment requests (executive_of images schedule stock order queues (numbers_of images schedule effort w))
      ≡ (executive_of images schedule stock order queues (numbers_of images schedule effort (all_delivered moment requests w).0), (all_delivered moment requests w).1)
  told effort moment requests stock order queues w own =
      let t : Sent Image = all_delivered moment requests w in
      let n : Numbers Image = numbers_of images schedule effort w in
      ap (serviced (executive_of images schedule stock order queues n)) (sent_alike moment requests host_name w.host w n.services.files n.services.slots own refl)
      ∙ ap (λ (s : Standing Image). (executive_of images schedule stock order queues (numbers_by images schedule effort s (events_of t.0) (counts_of t.0.sent)), t.1)) (sym (all_stand moment requests w))

  -- both are done and go together, or both are refused for one reason
  abbrev pub BothKept : Moment → Result (Step Image) Refusal → Result (Written Image) Refusal → Type 0
  BothKept moment (Ok step) (Ok s) = StepKept moment step s
  BothKept moment (Err a) (Err b) = a ≡ b
  BothKept moment r q = ⊥

  -- and so with the service's own event
  pub answered_kept : (effort : Effort) (moment : Moment) (service : Service) (packet : List ℕ) (stock : List Member) (order : List (Option App)) (w : World Image)
      (r : Result (Step Image) Refusal) (q : Result (Written Image) Refusal) →
      IsSeated images schedule (standing_of w) stock order → BothKept moment r q →
      StepKept moment (answered service packet w r) (answered_now images moment service packet (kept effort stock order w) q)
  answered_kept effort moment service packet stock order w (Ok step) (Err b) seated both = absurd both
  answered_kept effort moment service packet stock order w (Err a) (Ok s) seated both = absurd both
  answered_kept effort moment service packet stock order w (Err a) (Err b) seated both = record {
    stock = stock;
    order = order;
    effort = effort;
    seated = seated;
    same = ap (λ refusal. told_by_host moment (command_refused service refusal ∷ []) (kept effort stock order w)) (sym both)
        ∙ told effort moment (command_refused service a ∷ []) stock order no_packets w (refl, tt);
  }
  answered_kept effort moment service packet stock order w (Ok step) (Ok s) seated both =
      let done : List Request = command_done service (function_code packet) ∷ [] in
      let d : Sent Image = all_delivered moment step.1 step.0 in
      record {
        stock = both.stock;
        order = both.order;
        effort = both.effort;
        seated = both.seated;
        same = ap (λ (s : Written Image). followed s (told_by_host moment done)) both.same
            ∙ ap (λ (s : Written Image). (s.0, d.1 ++ s.1)) (told both.effort moment done both.stock both.order no_packets d.0 (refl, tt))
            ∙ ap (λ (s : Sent Image). (kept both.effort both.stock both.order s.0, s.1)) (sym (delivered_in_parts moment step.1 done step.0));
      }
