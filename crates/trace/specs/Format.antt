-- The binary trace: records one after the other, each one byte of kind and a body whose length the kind fixes. Assumes nothing.
use Rattle.std.specs.Prelude.{ℕ, zero, suc, ◌+◌, ◌*◌, cond, List, [], ◌∷◌, take, drop, Some, None, codes, Option, ◌==◌}
use Rattle.std.specs.Option.{option_map}

-- A row of the table: a kind, the name of its records, and how many bytes each number of the body has.
pub record Row : Type 0 where
  pub kind : ℕ
  pub name : List ℕ
  pub widths : List ℕ

-- The kinds, the names and the bodies.
abbrev pub table : List Row
table =
    record { kind = 0x01; name = codes "existential"; widths = [] }
    ∷ record { kind = 0x02; name = codes "universal"; widths = [] }
    ∷ record { kind = 0x03; name = codes "end naming"; widths = [] }
    ∷ record { kind = 0x04; name = codes "literal"; widths = 2 ∷ [] }
    ∷ record { kind = 0x05; name = codes "load clause"; widths = [] }
    ∷ record { kind = 0x06; name = codes "load cube"; widths = [] }
    ∷ record { kind = 0x07; name = codes "end loading"; widths = [] }
    ∷ record { kind = 0x08; name = codes "imply by clause"; widths = 4 ∷ [] }
    ∷ record { kind = 0x09; name = codes "imply by cube"; widths = 4 ∷ [] }
    ∷ record { kind = 0x0a; name = codes "decide"; widths = 2 ∷ [] }
    ∷ record { kind = 0x0b; name = codes "undo"; widths = 2 ∷ [] }
    ∷ record { kind = 0x0c; name = codes "begin from clause"; widths = 4 ∷ [] }
    ∷ record { kind = 0x0d; name = codes "begin from cube"; widths = 4 ∷ [] }
    ∷ record { kind = 0x0e; name = codes "resolve"; widths = 4 ∷ 2 ∷ [] }
    ∷ record { kind = 0x0f; name = codes "reduce"; widths = [] }
    ∷ record { kind = 0x10; name = codes "store"; widths = [] }
    ∷ record { kind = 0x11; name = codes "abandon"; widths = [] }
    ∷ record { kind = 0x12; name = codes "close false"; widths = [] }
    ∷ record { kind = 0x13; name = codes "close true"; widths = [] }
    ∷ []

-- The row of a kind, if one of the rows has it.
abbrev pub find : ℕ → List Row → Option Row
find k [] = None
find k (r ∷ rows) = cond (k == r.kind) (Some r) (find k rows)

abbrev pub row_of : ℕ → Option Row
row_of k = find k table

abbrev pub total : List ℕ → ℕ
total [] = 0
total (w ∷ ws) = w + total ws

-- How many bytes the body of a kind has; none where the kind is not listed.
abbrev pub body_length : ℕ → Option ℕ
body_length k = option_map (λ r. total r.widths) (row_of k)

-- A number's bytes stand low byte first.
abbrev pub number : List ℕ → ℕ
number [] = 0
number (b ∷ bs) = b + 256 * number bs

-- The numbers in a body, by how many bytes each has.
abbrev pub numbers : List ℕ → List ℕ → List ℕ
numbers [] body = []
numbers (w ∷ ws) body = number (take w body) ∷ numbers ws (drop w body)

-- What stands at the front of some bytes: nothing, a kind with its body and the rest, a kind that is not listed, or a cut body.
pub data Front : Type 0 where
  end : Front
  whole : ℕ → List ℕ → List ℕ → Front
  unknown_kind : Front
  cut_body : Front

-- The front, with one more byte before the body.
abbrev pub longer : ℕ → Front → Front
longer b end = end
longer b (whole k body rest) = whole k (b ∷ body) rest
longer b unknown_kind = unknown_kind
longer b cut_body = cut_body

-- A body of so many bytes, and the rest.
abbrev pub take_body : ℕ → ℕ → List ℕ → Front
take_body k zero bs = whole k [] bs
take_body k (suc n) [] = cut_body
take_body k (suc n) (b ∷ bs) = longer b (take_body k n bs)

abbrev pub after_kind : ℕ → Option ℕ → List ℕ → Front
after_kind k None bs = unknown_kind
after_kind k (Some n) bs = take_body k n bs

abbrev pub decode : List ℕ → Front
decode [] = end
decode (k ∷ bs) = after_kind k (body_length k) bs
