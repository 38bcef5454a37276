-- The theorem of `specs/Theorems.antt`.
use Prim.Native.Nat.{ℕ, ◌+◌, ◌-◌, ◌*◌, ◌/◌, ◌%◌, ◌≤◌}
use mathlib.Core.Path.{◌≡◌, refl, ap, ◌∙◌}
use native.Mathlib.Nat.{div-add-mod'}
use native.Mathlib.Omega.{arith}
use Rattle.message_checksum.specs.Checksum.{words_in, ones_add, ones_from, ones_sum, checksum_of}
use Rattle.message_checksum.specs.Examples.{WorkedSums}
use Rattle.message_checksum.specs.Theorems.{with_check, SumsToOnes}
use Rattle.message_checksum.proofs.Laws.{no_carry, ones_word, octets_words, sum_word, ones_later, blank_checksum}

pub sums_to_ones : SumsToOnes
unfolding ones_sum
sums_to_ones a b rest ha hb hr =
    let w : ℕ = ones_add 0 (a * 256 + b) in
    let hw : ones_add 0 (a * 256 + b) ≤ 65535 = ones_word 0 (a * 256 + b) (omega arith) (omega arith) in
    let s : ℕ = ones_from (ones_add 0 (a * 256 + b)) (words_in rest) in
    let hs : ones_from (ones_add 0 (a * 256 + b)) (words_in rest) ≤ 65535 = sum_word (words_in rest) (ones_add 0 (a * 256 + b)) hw (octets_words rest hr) in
    let c : ℕ = checksum_of (with_check a b 0 rest) in
    let e : checksum_of (with_check a b 0 rest) ≡ 65535 - ones_from (ones_add 0 (a * 256 + b)) (words_in rest) = blank_checksum a b rest ha hb in
    let d : c / 256 * 256 + c % 256 ≡ c = div-add-mod' c 256 in
    ap (λ (x : ℕ). ones_from (ones_add (ones_add 0 (a * 256 + b)) x) (words_in rest)) (d ∙ e)
    ∙ ones_later (words_in rest) (ones_add 0 (a * 256 + b)) (65535 - s) hw (omega arith) (octets_words rest hr)
    ∙ no_carry s (65535 - s) (omega arith)
    ∙ omega arith

pub worked : WorkedSums
unfolding ones_sum
worked = refl
