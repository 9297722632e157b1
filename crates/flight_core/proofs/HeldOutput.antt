-- Bytes that are held behind those of a device, and what a device has been given.
use Rattle.std.proofs.Common.{◌≡◌, refl, sym, ◌∙◌, ap, subst, ℕ, zero, suc, ◌-◌, ◌<◌, false, inl, inr, List, [], ◌∷◌, ◌++◌, length, take, drop, Option, Some, None, Result, Ok, Err, IfOk, arith, append_assoc, append-nil, length-append, length-drop}
use Rattle.std.proofs.lemmas.List.{take-append-drop}
use Rattle.std.proofs.Math.Seq.{drop-append_seam, take-append_seam, take-length}
use Rattle.std.specs.Io.KnownBytes.{Appends, Keeps, append_known}
use Rattle.std.specs.Prelude.{OnErr}
use Rattle.lc_model.specs.Device.{Sink, IsCutShort, NoWriteRetried, WriteFails, WritesSome}
use Rattle.lc_model.specs.declared.device.DeviceFault.{DeviceFault}
use Rattle.flight_core.specs.Gathered.{none_held, behind, HasGrown, MayHold, IsGiven, IsStuck}

-- ---- known bytes

pub known_more : (xs : List ℕ) (now : Option (List ℕ)) (bs : List ℕ) → Appends (Some xs) now bs → now ≡ Some (xs ++ bs)
known_more xs None bs gains = absurd gains
known_more xs (Some ys) bs gains = ap Some gains

pub keeps_same : (known : Option (List ℕ)) → Keeps known known
keeps_same None = tt
keeps_same (Some xs) = refl

-- what grows still begins with what it had
pub grows : (had now later : Option (List ℕ)) (bs : List ℕ) → HasGrown had now → Appends now later bs → HasGrown had later
grows had now later bs grown gains xs is =
    let rest : List ℕ = behind xs now in
    let first : later ≡ Some ((xs ++ rest) ++ bs) = known_more (xs ++ rest) later bs (subst (λ (k : Option (List ℕ)). Appends k later bs) (grown xs is) gains) in
    let whole : later ≡ Some (xs ++ (rest ++ bs)) = first ∙ ap Some (append_assoc xs rest bs) in
    let tail : behind xs later ≡ rest ++ bs = ap (behind xs) whole ∙ drop-append_seam xs (rest ++ bs) in
    whole ∙ ap (λ bytes. Some (xs ++ bytes)) (sym tail)

pub has_grown : (had now : Option (List ℕ)) → had ≡ now → HasGrown had now
has_grown had now same xs is =
    let here : now ≡ Some xs = sym same ∙ is in
    let none : behind xs now ≡ [] = ap (behind xs) here ∙ ap (drop (length xs)) (sym (append-nil xs)) ∙ drop-append_seam xs [] in
    here ∙ ap Some (sym (append-nil xs)) ∙ ap (λ bytes. Some (xs ++ bytes)) (sym none)

-- and so it does after one more write
pub grows_by_write : (had : Option (List ℕ)) (before now : Sink) (offered : List ℕ) (result : Result ℕ DeviceFault) → IfOk result (λ count. WritesSome before now count offered) →
    OnErr result (WriteFails before now) → HasGrown had before.gained → HasGrown had now.gained
grows_by_write had before now offered (Ok count) written fault grown = grows had before.gained now.gained (take count offered) grown written.gains
grows_by_write had before now offered (Err e) written fault grown = grows had before.gained now.gained [] grown (same_appends before.gained now.gained fault.unmoved)
  where
    same_appends : (known now : Option (List ℕ)) → Keeps known now → Appends known now []
    same_appends None now keeps = tt
    same_appends (Some xs) None keeps = absurd keeps
    same_appends (Some xs) (Some ys) keeps = keeps ∙ sym (append-nil xs)

-- ---- what is given

-- the first of what is held goes to the device, and the rest is still held
pub keeps_split : (before after : Option (List ℕ)) (first rest : List ℕ) → Appends before after first → Keeps (append_known before (first ++ rest)) (append_known after rest)
keeps_split None after first rest gains = tt
keeps_split (Some xs) None first rest gains = absurd gains
keeps_split (Some xs) (Some ys) first rest gains = ap (λ bytes. bytes ++ rest) gains ∙ append_assoc xs first rest

pub all_given : (before after : Sink) (held left : List ℕ) → Appends before.gained after.gained held → after.failed ≡ before.failed → NoWriteRetried before after → left ≡ [] → IsGiven before after held left
all_given before after held left gains fine not_retried none = record {
  keeps = subst (λ (x : List ℕ × List ℕ). Keeps (append_known before.gained x.0) (append_known after.gained x.1)) (λ i. (append-nil held i, sym none i)) (keeps_split before.gained after.gained held [] gains);
  none_left = none;
  fine = fine;
  not_retried = not_retried;
}

pub part_given : (before after : Sink) (held left : List ℕ) (sent : ℕ) → IsCutShort before after held sent → NoWriteRetried before after → left ≡ drop sent held → IsStuck before after held left
part_given before after held left sent cut not_retried is = record {
  keeps = subst (λ (x : List ℕ × List ℕ). Keeps (append_known before.gained x.0) (append_known after.gained x.1)) (λ i. (take-append-drop sent held i, sym is i))
      (keeps_split before.gained after.gained (take sent held) (drop sent held) cut.gains);
  some_left = omega (arith, cut.fewer, length-drop sent held, ap length is);
  failed = cut.remembered;
  not_retried = not_retried;
}

-- and what is written is held behind the rest
pub appends_held : (known : Option (List ℕ)) (held left bs : List ℕ) → left ≡ held ++ bs → Appends (append_known known held) (append_known known left) bs
appends_held None held left bs is = tt
appends_held (Some xs) held left bs is = ap (λ bytes. xs ++ bytes) is ∙ sym (append_assoc xs held bs)

pub kept_on : (first mid last : Option (List ℕ)) (bs : List ℕ) → Keeps first mid → Appends mid last bs → Appends first last bs
kept_on None mid last bs keeps gains = tt
kept_on (Some xs) None last bs keeps gains = absurd keeps
kept_on (Some xs) (Some ys) None bs keeps gains = absurd gains
kept_on (Some xs) (Some ys) (Some zs) bs keeps gains = gains ∙ ap (λ bytes. bytes ++ bs) keeps

pub kept_behind : (first mid last : Option (List ℕ)) (bs : List ℕ) → Appends first mid bs → Keeps mid last → Appends first last bs
kept_behind None mid last bs gains keeps = tt
kept_behind (Some xs) None last bs gains keeps = absurd gains
kept_behind (Some xs) (Some ys) None bs gains keeps = absurd keeps
kept_behind (Some xs) (Some ys) (Some zs) bs gains keeps = keeps ∙ gains

-- ---- what the device has of what was written

-- of what was written behind the first bytes the device has all but what is held
part_of_known : (had now : Option (List ℕ)) (held written : List ℕ) → HasGrown had now → Appends had (append_known now held) written → Appends had now (take (length written - length held) written)
part_of_known None now held written grown gains = tt
part_of_known (Some xs) now held written grown gains =
    let rest : List ℕ = behind xs now in
    let is : now ≡ Some (xs ++ rest) = grown xs refl in
    let all : (xs ++ rest) ++ held ≡ xs ++ written = subst (λ (k : Option (List ℕ)). Appends (Some xs) (append_known k held) written) is gains in
    let joined : rest ++ held ≡ written =
    sym (drop-append_seam xs (rest ++ held)) ∙ ap (drop (length xs)) (sym (append_assoc xs rest held) ∙ all) ∙ drop-append_seam xs written in
    let long : length written - length held ≡ length rest = omega (arith, length-append rest held, ap length joined) in
    let front : take (length written - length held) written ≡ rest = (λ i. take (long i) (sym joined i)) ∙ take-append_seam rest held in
    subst (λ (k : Option (List ℕ)). Appends (Some xs) k (take (length written - length held) written)) (sym is) (ap (λ bytes. xs ++ bytes) (sym front))

none_of : (n : ℕ) → take {A = ℕ} n [] ≡ []
none_of zero = refl
none_of (suc n) = refl

all_but_none : (written held : List ℕ) → held ≡ [] → take (length written - length held) written ≡ written
all_but_none written held none =
    ap (λ n. take n written) (let all : length written - length held ≡ length written = omega (arith, ap length none) in all) ∙ take-length written

pub reached_part : (had now : Option (List ℕ)) (held written : List ℕ) → MayHold had now held → Appends had (append_known now held) written →
    Appends had now (take (length written - length held) written)
reached_part had now held written (inr grown) gains = part_of_known had now held written grown gains
reached_part had now held written (inl none) gains =
    subst (Appends had now) (sym (all_but_none written held none))
    (subst (λ (k : Option (List ℕ)). Appends had k written) (ap (λ bytes. append_known now bytes) none ∙ ap (λ (s : Sink). s.gained) (none_held (record { gained = now; failed = false; retried = false }))) gains)

-- where nothing is held, or nothing was written, it has all
pub reached_all : (had now : Option (List ℕ)) (held written : List ℕ) → MayHold had now held → (0 < length written → held ≡ []) → Appends had (append_known now held) written →
    Appends had now written
reached_all had now held written may none gains = subst (Appends had now) (whole written none) (reached_part had now held written may gains)
  where
    whole : (ws : List ℕ) → (0 < length ws → held ≡ []) → take (length ws - length held) ws ≡ ws
    whole [] none = none_of (0 - length held)
    whole (w ∷ ws) none = all_but_none (w ∷ ws) held (none (omega arith))
