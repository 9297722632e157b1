-- The image of a stored file in use.
use Rattle.std.proofs.Common.{◌≡◌, ap, ap₂, sym, ◌∙◌, subst, List, ◌++◌, length, take, drop, append-nil, arith, ℕ, Option, Some, None, IfSome}
use Rattle.std.specs.Option.{option_map_or}
use Rattle.std.proofs.Math.ListN.{drop_of_length-le}
use Rattle.std.proofs.Math.Seq.{take-length}
use Rattle.lc_model.specs.Name.{Name, value_under}
use Rattle.lc_model.specs.Tables.File.{opened}
use Rattle.lc_model.specs.Tables.Slot.{installed}
use Rattle.lc_model.specs.Services.Tables.{Places, Handle, TableService, changed_among, image_in, stored_image, image_installed}

pub installed_so : (file : Name) (now new : TableService) (bytes : List ℕ) (slot : Handle) (lent places : Places) → Some bytes ≡ value_under file now.files → lent ≡ now.places →
    IfSome (image_in (opened bytes)) (λ image. places ≡ changed_among (installed image) slot lent) → new ≡ record { files = now.files; places = places } →
    IfSome (stored_image file now) (λ image. new ≡ image_installed slot image now)
installed_so file now new bytes slot lent places is from changed made =
    subst (λ (o : Option (List ℕ)). IfSome o (λ image. new ≡ image_installed slot image now)) (ap (λ (o : Option (List ℕ)). option_map_or (λ b. image_in (opened b)) o None) is)
    (by_image (image_in (opened bytes)) changed)
  where
    by_image : (o : Option (List ℕ)) → IfSome o (λ image. places ≡ changed_among (installed image) slot lent) → IfSome o (λ image. new ≡ image_installed slot image now)
    by_image None none = tt
    by_image (Some image) some = made ∙ ap (λ (p : Places). record now { places = p }) (some ∙ ap (changed_among (installed image) slot) from)

-- a vector whose items were all written has those that were written
pub all_written : {A : Type 0} (new items : List A) (len : ℕ) → len ≡ length items → length new ≡ length items → take len (new ++ drop (length new) items) ≡ new
all_written new items len is same =
    ap₂ (λ n (rest : List _). take n (new ++ rest)) (is ∙ sym same) (drop_of_length-le items (omega (arith, same))) ∙ ap (take (length new)) (append-nil new) ∙ take-length new
