-- The table of the bytes of words.
use Rattle.std.proofs.Common.{◌≡◌, refl, ℕ, ◌<◌, get_or, nat_eq}
use Rattle.std.proofs.lemmas.Bool.{agree_below_at}
use Rattle.lc_model.specs.Text.Token.{is_word_byte}
use Rattle.rule_lexer.specs.declared.bytes.TheConstants.{WORD_BYTES}

pub in_table : (byte : ℕ) → byte < 256 → nat_eq (get_or WORD_BYTES byte 0) 1 ≡ is_word_byte byte
in_table byte within = agree_below_at (λ b. nat_eq (get_or WORD_BYTES b 0) 1) is_word_byte 256 byte refl within
