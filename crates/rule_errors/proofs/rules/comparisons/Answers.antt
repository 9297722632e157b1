use Rattle.std.proofs.Common.{refl, sym, ◌∙◌, ap, subst, slice_get}
use Rattle.std.proofs.lemmas.Option.{slice_get_read}
use Rattle.rule_parser.specs.Syntax.{items_of}
use Rattle.watch_sharing.specs.Numbering.{all_mentions}
use Rattle.rule_errors.specs.Places.{IsBeyond, all_places}
use Rattle.rule_errors.proofs.rules.comparisons.Goals as goal

pub returns-in-Some : goal.returns-in-Some
returns-in-Some c = record {
  items = items_of c.args.text.now.file.items.items;
  rules = c.args.text.now.rules.rules;
  number = c.in_ok-found.found.beyond;
  read = c.requires.read;
  beyond =
      subst (λ mentions. IsBeyond mentions c.in_ok-found.found.beyond)
      (c.as_slice-2.ensures.value ∙ c.in_ok-mentions.ensures ∙ ap all_mentions c.as_slice.ensures) c.in_ok-found.ensures.beyond;
  place =
      ap (λ ats. slice_get ats c.in_ok-found.found.beyond)
      (ap (λ items. all_places (items_of items)) (sym c.as_slice-3.ensures.value) ∙ sym c.in_ok-places.ensures ∙ sym c.deref.ensures.value)
      ∙ slice_get_read c.deref.result.now _ c.in_ok-found.found.beyond c.in-Some.at.now refl c.in-Some.ensures.lookup.3.0 c.in-Some.ensures.lookup.1;
}
