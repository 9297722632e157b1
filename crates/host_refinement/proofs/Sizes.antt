-- How many bytes one call of an application asks to be written.
use Rattle.std.proofs.Common.{◌≡◌, ℕ, zero, suc, ◌+◌, ◌-◌, ◌≤◌, ◌<◌, ◌^◌, ◌/◌, ◌%◌, Bool, true, false, ◌==◌, List, [], ◌∷◌, ◌++◌, length, replicate, codes, max, refl, ap, ◌∙◌, arith, length-append, if◌then◌else◌}
use Rattle.std.specs.List.{AllByRecursion, concat}
use Rattle.std.specs.Fmt.{digits, digits_onto, digit_glyph, decimal}
use Rattle.std.proofs.lemmas.List.{length-replicate}
use Rattle.std.proofs.lemmas.Fmt.{length-decimal-le}
use Rattle.lc_model.specs.declared.record.Moment.{Moment}
use Rattle.lc_model.specs.declared.rule.EventKind.{EventKind}
use Rattle.lc_model.specs.Bytes.{u16, u32, zero_filled}
use Rattle.lc_model.specs.Name.{Name}
use Rattle.lc_model.specs.Packet.{event_mid, lc_housekeeping_mid, sequence_mid}
use Rattle.lc_model.specs.Codes.{event_code, table_entries}
use Rattle.lc_model.specs.Events.Request.{Request, Event, Sequence, Housekeeping, numbered}
use Rattle.lc_model.specs.Events.Outgoing.{event_packet, sequence_request, housekeeping_packet}
use Rattle.lc_model.specs.Kept.Next.{next_chosen, Accounts, next_delivered, next_all_delivered}
use Rattle.lc_model.proofs.Events.SendLaws.{housekeeping_has_192_bytes}

-- ---- requests

-- a sender's name has its place, and there are points for the rules of a table at most
abbrev pub Fits : Request → Type 0
Fits (Event sender id kind text) = length sender ≤ 20
Fits (Sequence number) = Unit {0}
Fits (Housekeeping mode points) = length points ≤ table_entries

-- the most bytes of its packet
abbrev pub weight : Request → ℕ
weight (Event sender id kind text) = 44 + max 124 (length text)
weight (Sequence number) = 12
weight (Housekeeping mode points) = 192

abbrev pub total : List Request → ℕ
total [] = 0
total (request ∷ requests) = weight request + total requests

-- requests that come to so many bytes at most
pub record Bounded (most : ℕ) (requests : List Request) : Type 0 where
  pub fit : AllByRecursion Fits requests
  pub size : total requests ≤ most

pub nothing : (most : ℕ) → Bounded most []
nothing most = record { fit = tt; size = omega arith }

pub wider : (few most : ℕ) (requests : List Request) → few ≤ most → Bounded few requests → Bounded most requests
wider few most requests fewer b = record { fit = b.fit; size = omega (arith, fewer, b.size) }

pub one_more : (most : ℕ) (request : Request) (requests : List Request) → Fits request → Bounded most requests → Bounded (weight request + most) (request ∷ requests)
one_more most request requests fits b = record { fit = (fits, b.fit); size = omega (arith, b.size) }

pub both : (m n : ℕ) (xs ys : List Request) → Bounded m xs → Bounded n ys → Bounded (m + n) (xs ++ ys)
both m n [] ys a b = wider n (m + n) ys (omega arith) b
both m n (x ∷ xs) ys a b =
    let others : Bounded ((m - weight x) + n) (xs ++ ys) = both (m - weight x) n xs ys (record { fit = a.fit.1; size = omega (arith, a.size) }) b in
    record { fit = (a.fit.0, others.fit); size = omega (arith, a.size, others.size) }

pub either : (most : ℕ) (test : Bool) (xs ys : List Request) → Bounded most xs → Bounded most ys → Bounded most (if test then xs else ys)
either most true xs ys a b = a
either most false xs ys a b = b

-- ---- packets

filled_up : (size : ℕ) (bytes : List ℕ) → length (zero_filled size bytes) ≡ max size (length bytes)
filled_up size bytes =
    let zeros : List ℕ = replicate (size - length bytes) 0 in
    let both : length (zero_filled size bytes) ≡ length bytes + length zeros = length-append bytes zeros in
    let behind : length zeros ≡ size - length bytes = length-replicate (size - length bytes) 0 in
    omega (arith, both, behind)

event_size : (count : ℕ) (moment : Moment) (sender : Name) (id : ℕ) (kind : EventKind) (text : List ℕ) → length sender ≤ 20 →
    length (event_packet count moment sender id kind text) ≡ 44 + max 124 (length text)
event_size count moment sender id kind text short =
    let a : List ℕ = zero_filled 20 sender in
    let name : length a ≡ max 20 (length sender) = filled_up 20 sender in
    let b : List ℕ = a ++ u16 id in
    let b_is : length b ≡ length a + 2 = length-append a (u16 id) in
    let c : List ℕ = b ++ u16 (event_code kind) in
    let c_is : length c ≡ length b + 2 = length-append b (u16 (event_code kind)) in
    let d : List ℕ = c ++ u32 66 in
    let d_is : length d ≡ length c + 4 = length-append c (u32 66) in
    let e : List ℕ = d ++ u32 1 in
    let e_is : length e ≡ length d + 4 = length-append d (u32 1) in
    let last : length (e ++ zero_filled 124 text) ≡ length e + length (zero_filled 124 text) = length-append e (zero_filled 124 text) in
    let text_is : length (zero_filled 124 text) ≡ max 124 (length text) = filled_up 124 text in
    let payload : length (e ++ zero_filled 124 text) ≡ 32 + max 124 (length text) = omega (arith, short, name, b_is, c_is, d_is, e_is, last, text_is) in
    let twelve : suc (suc (suc (suc (suc (suc (suc (suc (suc (suc (suc (suc (32 + max 124 (length text))))))))))))) ≡ 44 + max 124 (length text) = omega arith in
    ap (λ n. suc (suc (suc (suc (suc (suc (suc (suc (suc (suc (suc (suc n)))))))))))) payload ∙ twelve

length-concat-append : (xs ys : List (List ℕ)) → length (concat (xs ++ ys)) ≡ length (concat xs) + length (concat ys)
length-concat-append [] ys = omega arith
length-concat-append (x ∷ xs) ys =
    let first : length (x ++ concat (xs ++ ys)) ≡ length x + length (concat (xs ++ ys)) = length-append x (concat (xs ++ ys)) in
    let second : length (x ++ concat xs) ≡ length x + length (concat xs) = length-append x (concat xs) in
    let others : length (concat (xs ++ ys)) ≡ length (concat xs) + length (concat ys) = length-concat-append xs ys in
    omega (arith, first, second, others)

one_packet : (packet : List ℕ) (size : ℕ) → length packet ≡ size → length (concat (packet ∷ [])) ≤ size
one_packet packet size is =
    let whole : length (packet ++ []) ≡ length packet + 0 = length-append packet [] in
    omega (arith, whole, is)

one_size : (moment : Moment) (request : Request) (old : Accounts) → Fits request → length (concat (next_delivered moment request old).1) ≤ weight request
one_size moment (Sequence number) old fits = one_packet (sequence_request (old.counts sequence_mid) number) 12 refl
one_size moment (Housekeeping mode points) old fits = one_packet (housekeeping_packet (old.counts lc_housekeeping_mid) moment mode points) 192 (housekeeping_has_192_bytes (old.counts lc_housekeeping_mid) moment mode points fits)
one_size moment (Event sender id kind text) old fits = by_test (next_chosen id kind old.events) _ _
  where
    packet : List ℕ
    packet = event_packet (old.counts event_mid) moment sender id kind text

    by_test : (test : Bool) (after silent : Accounts) →
        length (concat (let d : Accounts × List (List ℕ) = if test then (after, packet ∷ []) else (silent, []) in d.1)) ≤ 44 + max 124 (length text)
    by_test true after silent = one_packet packet (44 + max 124 (length text)) (event_size (old.counts event_mid) moment sender id kind text fits)
    by_test false after silent = omega arith

pub all_size : (most : ℕ) (moment : Moment) (requests : List Request) (old : Accounts) → Bounded most requests → length (concat (next_all_delivered moment requests old).1) ≤ most
all_size most moment [] old b = omega arith
all_size most moment (request ∷ requests) old b =
    let first : Accounts × List (List ℕ) = next_delivered moment request old in
    let others : Accounts × List (List ℕ) = next_all_delivered moment requests first.0 in
    let here : length (concat first.1) ≤ weight request = one_size moment request old b.fit.0 in
    let behind : length (concat others.1) ≤ most - weight request = all_size (most - weight request) moment requests first.0 (record { fit = b.fit.1; size = omega (arith, b.size) }) in
    let whole : length (concat (first.1 ++ others.1)) ≡ length (concat first.1) + length (concat others.1) = length-concat-append first.1 others.1 in
    omega (arith, here, behind, whole, b.size)

-- ---- texts

-- a number never has more than 64 digits
digits_few : (most base : ℕ) (upper : Bool) (n : ℕ) (behind : List ℕ) → length (digits_onto most base upper n behind) ≤ most + length behind
digits_few zero base upper n behind = omega arith
digits_few (suc most) base upper n behind =
    by_test (n / base == 0) (digits_few most base upper (n / base) (digit_glyph upper (n % base) ∷ behind))
  where
    glyph : ℕ
    glyph = digit_glyph upper (n % base)

    by_test : (test : Bool) → length (digits_onto most base upper (n / base) (glyph ∷ behind)) ≤ most + suc (length behind) →
        length (let ds : List ℕ = if test then glyph ∷ behind else digits_onto most base upper (n / base) (glyph ∷ behind) in ds) ≤ suc most + length behind
    by_test true others = omega arith
    by_test false others = omega (arith, others)

pub decimal_few : (n : ℕ) → length (decimal n) ≤ 64
unfolding digits
decimal_few n = let few : length (digits_onto 64 10 false n []) ≤ 64 + 0 = digits_few 64 10 false n [] in omega (arith, few)

-- a text with one number behind it
pub numbered_one : (text : List ℕ) (n digits : ℕ) → length (decimal n) ≤ digits → length (numbered text (n ∷ [])) ≤ length text + suc digits
numbered_one text n digits few =
    let spaced : List ℕ = codes " " ++ decimal n in
    let whole : length (text ++ (spaced ++ [])) ≡ length text + length (spaced ++ []) = length-append text (spaced ++ []) in
    let alone : length (spaced ++ []) ≡ length spaced + 0 = length-append spaced [] in
    omega (arith, whole, alone, few)

pub behind_text : (text more : List ℕ) (m n : ℕ) → length text ≤ m → length more ≤ n → length (text ++ more) ≤ m + n
behind_text text more m n a b = let whole : length (text ++ more) ≡ length text + length more = length-append text more in omega (arith, whole, a, b)

-- a number below 65,536 has five digits at most
pub five_digits : (n : ℕ) → n < 2 ^ 16 → length (decimal n) ≤ 5
five_digits n small = length-decimal-le 5 n (omega arith) (omega (arith, small)) (omega (arith, small))
