-- Document 01, "Option and tags": the runs that an option's categories are read to.
use Rattle.std.specs.Prelude.{ℕ, zero, suc, ◌*◌, List, [], ◌∷◌, Bool, cond, length, eqb}
use Rattle.label.specs.declared.Run.{Run}
use Rattle.label.specs.Runs.{run, joined}
use Rattle.option.specs.Bitmap.{bit_at}
use Rattle.option.specs.Option.{tag_of, body_of, numbers_in, singles, pairs_in}

-- turned round, in front of what is there
abbrev pub turned : List Run → List Run → List Run
turned acc [] = acc
turned acc (r ∷ rs) = turned (r ∷ acc) rs

-- the categories below n of which f says yes, highest first
abbrev pub bit_pieces : (ℕ → Bool) → ℕ → List Run
bit_pieces f zero = []
bit_pieces f (suc n) = cond (f n) (run n n ∷ bit_pieces f n) (bit_pieces f n)

-- every tag gives pieces, here highest first: tag 1 its set bits, tag 2 its numbers, tag 5 its pairs
unfoldable pub pieces : ℕ → List ℕ → List Run
pieces t b =
    cond (eqb t 1) (bit_pieces (bit_at b) (8 * length b)) (cond (eqb t 2) (turned [] (singles (numbers_in b))) (pairs_in (numbers_in b)))

-- the pieces joined where they touch
unfoldable pub option_runs : List ℕ → List Run
option_runs o = joined (pieces (tag_of o) (body_of o))
