-- A stock is put into boxes that last, one after the other.
use Rattle.std.proofs.Common.{◌≡◌, sym, ap, ◌∙◌, ℕ, zero, suc, ◌+◌, List, [], ◌∷◌, ◌++◌, length, map, arith, append_assoc, append-nil}
use Rattle.std.proofs.lemmas.List.{map-append}
use Rattle.std.specs.Global.{Global}
use Rattle.std.specs.declared.boxed.Box.{Box}
use Rattle.app_host.specs.Hosted.{Object, objects_in}
use Rattle.flight_profile.specs.declared.members.Member.{Member}
use Rattle.flight_profile.specs.Members.{meaning_of}
use Rattle.c_interface.specs.declared.lasting.LastingBox.{LastingBox}
use Rattle.c_interface.specs.Lasting.{lasting_meaning}

-- one more
pub one_more : (boxes boxes' : List LastingBox) (rest rest' : List (Box Member Global)) (box : LastingBox) (whole : List Object) → boxes' ≡ boxes ++ box ∷ [] → rest ≡ box.app ∷ rest' →
    objects_in lasting_meaning boxes ++ objects_in meaning_of rest ≡ whole → objects_in lasting_meaning boxes' ++ objects_in meaning_of rest' ≡ whole
one_more boxes boxes' rest rest' box whole more first all =
    ap (λ (bs : List LastingBox). objects_in lasting_meaning bs ++ objects_in meaning_of rest') more
    ∙ ap (λ (os : List Object). os ++ objects_in meaning_of rest') (map-append lasting_meaning boxes (box ∷ []))
    ∙ append_assoc (objects_in lasting_meaning boxes) (lasting_meaning box ∷ []) (objects_in meaning_of rest')
    ∙ ap (λ (bs : List (Box Member Global)). objects_in lasting_meaning boxes ++ objects_in meaning_of bs) (sym first)
    ∙ all

-- none is left
pub none_left : (boxes : List LastingBox) (rest : List (Box Member Global)) (whole : List Object) → length rest ≡ 0 → objects_in lasting_meaning boxes ++ objects_in meaning_of rest ≡ whole →
    objects_in lasting_meaning boxes ≡ whole
none_left boxes [] whole none all = sym (append-nil (objects_in lasting_meaning boxes)) ∙ all
none_left boxes (app ∷ rest) whole none all = absurd (omega (arith, none))
