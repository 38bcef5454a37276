-- `message_checksum::add_block` meets its contract.
use Prim.Native.Nat.{ℕ, ◌+◌, ◌*◌, ◌/◌}
use mathlib.Core.Path.{◌≡◌, ap, ◌∙◌}
use native.Mathlib.Omega.{arith}
use lib.ListN.{length, drop}
use Rattle.message_checksum.specs.Checksum.{words_in, ones_from}
use Rattle.message_checksum.specs.Stages.{folded}
use Rattle.lists.proofs.Laws.{chunk_in}
use Rattle.message_checksum.proofs.Laws.{pair_word, sum_step}
use Rattle.message_checksum.proofs.add_block.Goals as goal

pub loop-pair-preserved : goal.loop-pair-preserved
loop-pair-preserved c =
    let o = c.args.octets.now in
    let i = c.loop-pair.pair-index in
    let b = chunk_in 2 (length o / 2) o c.as_chunks.result.0.now i _ c.as_chunks.ensures.front c.as_chunks.ensures.front_len c.loop-pair-test.true in
    let n : i * 2 + 2 ≡ (i + 1) * 2 = omega arith in (
      omega (arith, c.word-s.ensures.1, c.loop-pair.invariant.0),
      sum_step o _ c.loop-pair.s c.word-s.result (i * 2) (omega arith) (pair_word o _ (i * 2) c.word-s.result b c.word-s.ensures.0) c.word-s.ensures.1 c.loop-pair.invariant.1
          ∙ ap (λ (j : ℕ). ones_from (folded (c.loop-pair.s + c.word-s.result)) (words_in (drop j o))) n,
    )
