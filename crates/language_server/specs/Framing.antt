-- Messages as they are sent (Language Server Protocol 3.17, "Base Protocol").
use Rattle.std.specs.Prelude.{ℕ, List, ◌++◌, ◌≡◌, codes, decimal, length}

-- a body after the header line with its size in bytes, and an empty line
abbrev pub framed : List ℕ → List ℕ
framed body = codes "Content-Length: " ++ (decimal (length body) ++ (codes "\r\n\r\n" ++ body))

-- after what was to be sent before, one whole message
abbrev pub HasOneMore : List ℕ → List ℕ → Type 0
HasOneMore before after = (body : List ℕ) × (after ≡ before ++ framed body)
