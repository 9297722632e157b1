-- Reading agrees with the stack: what is read is what the stack wants, and the fault that stops it is the first fault.
use Rattle.std.proofs.Common.{◌≡◌, refl, sym, ◌∙◌, ap, subst, ℕ, Bool, true, false, cond, List, [], ◌∷◌, ◌++◌, Option, Some, None, Result, Ok, Err, codes}
use Rattle.lc_model.specs.Text.Token.{Token}
use Rattle.lc_model.specs.Text.Syntax as syntax
use Rattle.lc_model.specs.Text.Class.{Class, Number, Word, word, fits, Fits, next, done}
use Rattle.lc_model.specs.Text.Grammar.{number_of, DerivesOption, DerivesReport}
use Rattle.lc_model.specs.Text.Reading.{ParseFault, Expected}
use Rattle.rule_parser.specs.Stack.{Symbol, Room, outside, one, option, ones, step, narrowed, fault_at}
use Rattle.rule_parser.specs.Front.{place_in, begins}
use Rattle.rule_parser.specs.Left.{Left, Reading, ◌>>=◌, wanting, token_in, number_in, labelled_in, some_in, option_in, reports_in, report_in}
use Rattle.rule_parser.proofs.Runs.{on_one}
use Rattle.rule_parser.proofs.OneToken.{One, one_token, one_number}
use Rattle.rule_parser.proofs.FaultSteps.{fault_behind, fault_of_one, past_option, steady_outside}

-- what is read stands in front and is right, and the first fault behind it is that of the whole; or this is the first fault.
-- Both for each stack before and behind.
abbrev pub Agrees : {X B : Type 0} (room narrower : Room) (from to : X → List Symbol) (D : List Token → B → Type 0) (before : Left) → Reading B → Type 0
Agrees {X} room narrower from to D before (Ok r) =
    (front : List Token) × (before.tokens ≡ front ++ r.1.tokens) × (r.1.end ≡ before.end) × D front r.0
    × ((x : X) → fault_at before.end room (from x) before.tokens ≡ fault_at r.1.end narrower (to x) r.1.tokens)
Agrees {X} room narrower from to D before (Err fault) = (x : X) → fault_at before.end room (from x) before.tokens ≡ Some fault

-- with nothing more to read
pub agrees_end : {X B : Type 0} (room : Room) (s : X → List Symbol) (D : List Token → B → Type 0) (left : Left) (v : B) → D [] v →
    Agrees room room s s D left (Ok (v, left))
agrees_end room s D left v is = ([], refl, refl, is, λ x. refl)

-- with one token less
agrees_behind : {X B : Type 0} (room narrow narrower : Room) (from between to : X → List Symbol) (D : List Token → B → Type 0)
    (before left : Left) (t : Token) → before.tokens ≡ t ∷ left.tokens → left.end ≡ before.end →
    ((x : X) → step (from x) t ≡ Some (between x)) → narrowed room t ≡ Some narrow →
    (r : Reading B) → Agrees narrow narrower between to (λ front v. D (t ∷ front) v) left r → Agrees room narrower from to D before r
agrees_behind {X} {B} room narrow narrower from between to D before left t first same steps narrows r agrees = go r agrees
  where
    whole : (x : X) → fault_at before.end room (from x) before.tokens ≡ fault_at left.end narrow (between x) left.tokens
    whole x =
        ap (fault_at before.end room (from x)) first
        ∙ fault_behind before.end room narrow (from x) (between x) t left.tokens (steps x) narrows
        ∙ ap (λ end. fault_at end narrow (between x) left.tokens) (sym same)

    go : (r : Reading B) → Agrees narrow narrower between to (λ front v. D (t ∷ front) v) left r → Agrees room narrower from to D before r
    go (Ok r) a = (t ∷ a.0, first ∙ ap (λ ts. t ∷ ts) a.1, a.2 ∙ same, a.3, λ x. whole x ∙ a.4 x)
    go (Err fault) a = λ x. whole x ∙ a x

-- a token of the class, or the fault that this is wanted, and then the rest
pub agrees_one : {X A B : Type 0} (room narrow narrower : Room) (from between to : X → List Symbol) (D : List Token → B → Type 0)
    (wanted what : Class) (R : Token → A → Type 0) (before : Left) (o : Option (A × List Token)) (f : A × Left → Reading B) →
    One wanted R before.tokens o →
    ((x : X) (t : Token) → Fits wanted t → step (from x) t ≡ Some (between x)) →
    ((t : Token) → Fits wanted t → narrowed room t ≡ Some narrow) →
    ((x : X) → begins wanted before.tokens ≡ false → fault_at before.end room (from x) before.tokens ≡ Some (Expected (place_in before.end before.tokens) what)) →
    ((t : Token) (a : A) (left : Left) → Fits wanted t → R t a → Agrees narrow narrower between to (λ front v. D (t ∷ front) v) left (f (a, left))) →
    Agrees room narrower from to D before (wanting what before o >>= f)
agrees_one room narrow narrower from between to D wanted what R before None f is steps narrows fault others = λ x. fault x is
agrees_one room narrow narrower from between to D wanted what R before (Some x) f is steps narrows fault others =
    agrees_behind room narrow narrower from between to D before (record before { tokens = x.1 }) is.0 is.1 refl (λ y. steps y is.0 is.2)
    (narrows is.0 is.2) (f (x.0, record before { tokens = x.1 })) (others is.0 x.0 (record before { tokens = x.1 }) is.2 is.3)

-- reading agrees with the stack where that wants one token, outside of conditions
pub agrees_plain : {X A B : Type 0} (narrower : Room) (s to : X → List Symbol) (D : List Token → B → Type 0)
    (wanted : Class) (R : Token → A → Type 0) (before : Left) (o : Option (A × List Token)) (f : A × Left → Reading B) →
    One wanted R before.tokens o → fits wanted (codes "when") ≡ false →
    ((t : Token) (a : A) (left : Left) → Fits wanted t → R t a → Agrees outside narrower s to (λ front v. D (t ∷ front) v) left (f (a, left))) →
    Agrees outside narrower (λ x. one wanted ∷ s x) to D before (wanting wanted before o >>= f)
agrees_plain narrower s to D wanted R before o f is other others =
    agrees_one outside outside narrower (λ x. one wanted ∷ s x) s to D wanted wanted R before o f is
    (λ x t fit. on_one t wanted (s x) fit) (λ t fit. steady_outside wanted t other fit)
    (λ x none. fault_of_one before.end outside wanted (s x) before.tokens none) others

-- a word or a sign
pub agrees_token : {X B : Type 0} (narrower : Room) (s to : X → List Symbol) (D : List Token → B → Type 0)
    (wanted : Class) (before : Left) (f : Token × Left → Reading B) → fits wanted (codes "when") ≡ false →
    ((t : Token) (left : Left) → Fits wanted t → Agrees outside narrower s to (λ front v. D (t ∷ front) v) left (f (t, left))) →
    Agrees outside narrower (λ x. one wanted ∷ s x) to D before (token_in wanted before >>= f)
unfolding token_in
agrees_token narrower s to D wanted before f other others =
    agrees_plain narrower s to D wanted (λ t u. u ≡ t) before _ f (one_token wanted before.tokens) other
    (λ t u left fit same. subst (λ u. Agrees outside narrower s to (λ front v. D (t ∷ front) v) left (f (u, left))) (sym same) (others t left fit))

-- a number
pub agrees_number : {X B : Type 0} (narrower : Room) (s to : X → List Symbol) (D : List Token → B → Type 0)
    (before : Left) (f : syntax.Number × Left → Reading B) →
    ((t : Token) (left : Left) → Fits Number t → Agrees outside narrower s to (λ front v. D (t ∷ front) v) left (f (number_of t, left))) →
    Agrees outside narrower (λ x. one Number ∷ s x) to D before (number_in before >>= f)
unfolding number_in
agrees_number narrower s to D before f others =
    agrees_plain narrower s to D Number (λ t n. n ≡ number_of t) before _ f (one_number before.tokens) refl
    (λ t n left fit same. subst (λ n. Agrees outside narrower s to (λ front v. D (t ∷ front) v) left (f (n, left))) (sym same) (others t left fit))

-- steps in a row, from the left or from the right
in_a_row : {A B C : Type 0} (r : Result A ParseFault) (f : A → Result B ParseFault) (g : B → Result C ParseFault) →
    (r >>= (λ x. f x >>= g)) ≡ ((r >>= f) >>= g)
in_a_row (Ok x) f g = refl
in_a_row (Err fault) f g = refl

-- a word and a number
pub agrees_labelled : {X B : Type 0} (narrower : Room) (s to : X → List Symbol) (D : List Token → B → Type 0)
    (wanted : Class) (before : Left) (f : syntax.Number × Left → Reading B) → fits wanted (codes "when") ≡ false →
    ((w n : Token) (left : Left) → Fits wanted w → Fits Number n → Agrees outside narrower s to (λ front v. D (w ∷ n ∷ front) v) left (f (number_of n, left))) →
    Agrees outside narrower (λ x. one wanted ∷ one Number ∷ s x) to D before (labelled_in wanted before >>= f)
unfolding labelled_in
agrees_labelled narrower s to D wanted before f other others =
    subst (Agrees outside narrower (λ x. one wanted ∷ one Number ∷ s x) to D before) (in_a_row (token_in wanted before) (λ w. number_in w.1) f)
    (agrees_token narrower (λ x. one Number ∷ s x) to D wanted before (λ w. number_in w.1 >>= f) other (λ w left fit.
    agrees_number narrower s to (λ front v. D (w ∷ front) v) left f (λ n left fit'. others w n left fit fit')))

-- ---- what may be left out

-- the same reading from another stack
agrees_from : {X B : Type 0} (room narrower : Room) (from from' to : X → List Symbol) (D : List Token → B → Type 0) (before : Left) (r : Reading B) →
    ((x : X) → fault_at before.end room (from x) before.tokens ≡ fault_at before.end room (from' x) before.tokens) →
    Agrees room narrower from' to D before r → Agrees room narrower from to D before r
agrees_from room narrower from from' to D before (Ok r) same a = (a.0, a.1, a.2, a.3, λ x. same x ∙ a.4 x)
agrees_from room narrower from from' to D before (Err fault) same a = λ x. same x ∙ a x

-- an option whose word stands next
agrees_word : {X B : Type 0} (narrower : Room) (s to : X → List Symbol) (D : List Token → B → Type 0)
    (letters : List ℕ) (following : List Class) (before : Left) (f : Token × Left → Reading B) → fits (Word letters) (codes "when") ≡ false →
    begins (Word letters) before.tokens ≡ true →
    ((t : Token) (left : Left) → Fits (Word letters) t → Agrees outside narrower (λ x. ones following ++ s x) to (λ front v. D (t ∷ front) v) left (f (t, left))) →
    Agrees outside narrower (λ x. option letters following ∷ s x) to D before (token_in (Word letters) before >>= f)
unfolding token_in
agrees_word {X} narrower s to D letters following before f other there others =
    agrees_one outside outside narrower (λ x. option letters following ∷ s x) (λ x. ones following ++ s x) to D (Word letters) (Word letters) (λ t u. u ≡ t)
    before _ f (one_token (Word letters) before.tokens)
    (λ x t fit. ap (λ b. cond b (Some (ones following ++ s x)) (step (s x) t)) fit) (λ t fit. steady_outside (Word letters) t other fit)
    (λ x none. absurd (cc (there, none)))
    (λ t u left fit same. subst (λ u. Agrees outside narrower (λ x. ones following ++ s x) to (λ front v. D (t ∷ front) v) left (f (u, left))) (sym same) (others t left fit))

-- a word and a number, or nothing
pub agrees_option : {X B : Type 0} (narrower : Room) (s to : X → List Symbol) (D : List Token → B → Type 0)
    (letters : List ℕ) (before : Left) (f : Option syntax.Number × Left → Reading B) → fits (Word letters) (codes "when") ≡ false →
    ((front : List Token) (o : Option syntax.Number) (left : Left) → DerivesOption (Word letters) front o →
    Agrees outside narrower s to (λ more v. D (front ++ more) v) left (f (o, left))) →
    Agrees outside narrower (λ x. option letters (Number ∷ []) ∷ s x) to D before (option_in (Word letters) before >>= f)
unfolding option_in some_in labelled_in
agrees_option {X} {B} narrower s to D letters before f other others = go (begins (Word letters) before.tokens) refl
  where
    present : begins (Word letters) before.tokens ≡ true → Agrees outside narrower (λ x. option letters (Number ∷ []) ∷ s x) to D before (some_in (Word letters) before >>= f)
    present there =
        subst (Agrees outside narrower (λ x. option letters (Number ∷ []) ∷ s x) to D before)
        (in_a_row (token_in (Word letters) before) (λ w. number_in w.1) (λ n. f (Some n.0, n.1))
        ∙ in_a_row (token_in (Word letters) before >>= (λ w. number_in w.1)) (λ n. Ok (Some n.0, n.1)) f)
        (agrees_word narrower s to D letters (Number ∷ []) before (λ w. number_in w.1 >>= (λ n. f (Some n.0, n.1))) other there (λ w left fit.
        agrees_number narrower s to (λ front v. D (w ∷ front) v) left (λ n. f (Some n.0, n.1)) (λ n left fit'.
        others (w ∷ n ∷ []) (Some (number_of n)) left (DerivesOption.present (next fit (next fit' done))))))

    go : (b : Bool) → begins (Word letters) before.tokens ≡ b →
        Agrees outside narrower (λ x. option letters (Number ∷ []) ∷ s x) to D before (cond b (some_in (Word letters) before) (Ok (None, before)) >>= f)
    go true there = present there
    go false none =
        agrees_from outside narrower (λ x. option letters (Number ∷ []) ∷ s x) s to D before (f (None, before))
        (λ x. past_option before.end outside letters (Number ∷ []) (s x) before.tokens none)
        (others [] None before DerivesOption.absent)

-- a report, or nothing
pub agrees_report : {X B : Type 0} (narrower : Room) (s to : X → List Symbol) (D : List Token → B → Type 0)
    (before : Left) (f : Option syntax.ReportItem × Left → Reading B) →
    ((front : List Token) (o : Option syntax.ReportItem) (left : Left) → DerivesReport front o →
    Agrees outside narrower s to (λ more v. D (front ++ more) v) left (f (o, left))) →
    Agrees outside narrower (λ x. option (codes "report") (Number ∷ Number ∷ Number ∷ []) ∷ s x) to D before (report_in before >>= f)
unfolding report_in reports_in
agrees_report {X} {B} narrower s to D before f others = go (begins (word "report") before.tokens) refl
  where
    reported : Token → Token → Token → Option syntax.ReportItem
    reported a b c = Some (record { passive = number_of a; pass_to_fail = number_of b; fail_to_pass = number_of c })

    rest : syntax.Number → syntax.Number → syntax.Number × Left → Reading B
    rest a b c = f (Some (record { passive = a; pass_to_fail = b; fail_to_pass = c.0 }), c.1)

    unfold_row : (r : Reading Token) →
        (r >>= (λ w. number_in w.1 >>= (λ a. number_in a.1 >>= (λ b. number_in b.1 >>= (λ c. f (Some (record { passive = a.0; pass_to_fail = b.0; fail_to_pass = c.0 }), c.1))))))
        ≡ ((r >>= (λ w. number_in w.1 >>= (λ a. number_in a.1 >>= (λ b. number_in b.1 >>= (λ c. Ok (Some (record { passive = a.0; pass_to_fail = b.0; fail_to_pass = c.0 }), c.1)))))) >>= f)
    unfold_row (Err fault) = refl
    unfold_row (Ok w) = second (number_in w.1)
      where
        fourth : (a b : syntax.Number) (r : Reading syntax.Number) →
            (r >>= (λ c. f (Some (record { passive = a; pass_to_fail = b; fail_to_pass = c.0 }), c.1)))
            ≡ ((r >>= (λ c. Ok (Some (record { passive = a; pass_to_fail = b; fail_to_pass = c.0 }), c.1))) >>= f)
        fourth a b (Err fault) = refl
        fourth a b (Ok c) = refl

        third : (a : syntax.Number) (r : Reading syntax.Number) →
            (r >>= (λ b. number_in b.1 >>= (λ c. f (Some (record { passive = a; pass_to_fail = b.0; fail_to_pass = c.0 }), c.1))))
            ≡ ((r >>= (λ b. number_in b.1 >>= (λ c. Ok (Some (record { passive = a; pass_to_fail = b.0; fail_to_pass = c.0 }), c.1)))) >>= f)
        third a (Err fault) = refl
        third a (Ok b) = fourth a b.0 (number_in b.1)

        second : (r : Reading syntax.Number) →
            (r >>= (λ a. number_in a.1 >>= (λ b. number_in b.1 >>= (λ c. f (Some (record { passive = a.0; pass_to_fail = b.0; fail_to_pass = c.0 }), c.1)))))
            ≡ ((r >>= (λ a. number_in a.1 >>= (λ b. number_in b.1 >>= (λ c. Ok (Some (record { passive = a.0; pass_to_fail = b.0; fail_to_pass = c.0 }), c.1))))) >>= f)
        second (Err fault) = refl
        second (Ok a) = third a.0 (number_in a.1)

    present : begins (word "report") before.tokens ≡ true →
        Agrees outside narrower (λ x. option (codes "report") (Number ∷ Number ∷ Number ∷ []) ∷ s x) to D before (reports_in before >>= f)
    present there =
        subst (Agrees outside narrower (λ x. option (codes "report") (Number ∷ Number ∷ Number ∷ []) ∷ s x) to D before)
        (unfold_row (token_in (word "report") before))
        (agrees_word narrower s to D (codes "report") (Number ∷ Number ∷ Number ∷ []) before _ refl there (λ w left fit.
        agrees_number narrower (λ x. one Number ∷ one Number ∷ s x) to (λ front v. D (w ∷ front) v) left _ (λ a left fa.
        agrees_number narrower (λ x. one Number ∷ s x) to (λ front v. D (w ∷ a ∷ front) v) left _ (λ b left fb.
        agrees_number narrower s to (λ front v. D (w ∷ a ∷ b ∷ front) v) left _ (λ c left fc.
        others (w ∷ a ∷ b ∷ c ∷ []) (reported a b c) left (DerivesReport.present (next fit (next fa (next fb (next fc done))))))))))

    go : (b : Bool) → begins (word "report") before.tokens ≡ b →
        Agrees outside narrower (λ x. option (codes "report") (Number ∷ Number ∷ Number ∷ []) ∷ s x) to D before (cond b (reports_in before) (Ok (None, before)) >>= f)
    go true there = present there
    go false none =
        agrees_from outside narrower (λ x. option (codes "report") (Number ∷ Number ∷ Number ∷ []) ∷ s x) s to D before (f (None, before))
        (λ x. past_option before.end outside (codes "report") (Number ∷ Number ∷ Number ∷ []) (s x) before.tokens none)
        (others [] None before DerivesReport.absent)
