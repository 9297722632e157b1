-- What a sentence says. This project's own.
use Rattle.std.specs.Prelude.{◌≡◌, ◌-◌, ◌<◌, ℕ, List, take, drop, replicate}
use Rattle.c_interface.specs.declared.sentence.Sentence.{Sentence}

-- the bytes of a sentence's room, of which the last one stays 0
abbrev pub sentence_room : ℕ
sentence_room = 252

-- the most bytes of a sentence
abbrev pub most_said : ℕ
most_said = 251

-- the most decimal digits of a number of 64 bits, and of one of 128
abbrev pub longest_number : ℕ
longest_number = 20

abbrev pub longest_wide_number : ℕ
longest_wide_number = 39

-- it says exactly this, and then zeros
pub record Says (text : List ℕ) (sentence : Sentence) : Type 0 where
  pub ends : sentence.length < sentence_room
  pub zeros : drop sentence.length sentence.bytes ≡ replicate (sentence_room - sentence.length) 0
  pub said : take sentence.length sentence.bytes ≡ text

-- it says nothing
abbrev pub no_sentence : Sentence
no_sentence = record { length = 0; bytes = replicate sentence_room 0 }
