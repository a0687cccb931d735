use Rattle.std.proofs.Common.{ℕ, ◌^◌, ◌<◌, List, get_or, ◌∙◌, arith}
use lib.Count.{ones}
use Rattle.std.proofs.lemmas.List.Sums.{sum-map}
use Rattle.bitset_rows.specs.Rows.{bit}
use Rattle.bitset_rows.proofs.Chosen.{length_chosen}
use Rattle.bitset_database.proofs.Tables.{ones_row}
use Rattle.bitset_database.proofs.bitset.methods.size.Goals as goal

pub count_set-requires : goal.count_set-requires
count_set-requires c =
    let ws : List ℕ = c.args.words.now in
    let small : (i : ℕ) → get_or ws i 0 < 2 ^ 64 = λ i. omega (arith, c.fits-words i) in
    omega (arith, sum-map ones ws, ones_row ws small c.told-words, length_chosen (bit ws 0) 1024)

pub returns : goal.returns
returns c =
    let ws : List ℕ = c.args.words.now in
    let small : (i : ℕ) → get_or ws i 0 < 2 ^ 64 = λ i. omega (arith, c.fits-words i) in
    c.count_set.ensures ∙ sum-map ones ws ∙ ones_row ws small c.told-words
