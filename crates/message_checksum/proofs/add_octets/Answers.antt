-- `message_checksum::add_octets` meets its contract.
use Prim.Native.Nat.{ℕ, ◌+◌, ◌*◌}
use mathlib.Core.Path.{sym, ap, ◌∙◌}
use mathlib.Core.List.{List}
use lib.ListN.{drop}
use Rattle.message_checksum.specs.Checksum.{words_in, ones_from}
use Rattle.lists.proofs.Laws.{chunk_in}
use Rattle.message_checksum.proofs.Laws.{block_step}
use Rattle.message_checksum.proofs.add_octets.Goals as goal

pub loop-block-preserved : goal.loop-block-preserved
loop-block-preserved c =
    let o = c.args.octets.now in
    let i = c.loop-block.block-index in
    let b = chunk_in 65536 _ o c.as_chunks.result.0.now i _ c.as_chunks.ensures.front c.as_chunks.ensures.front_len c.loop-block-test.true in
    c.loop-block.invariant
    ∙ block_step o i c.loop-block.s
    ∙ ap (λ (x : ℕ). ones_from x (words_in (drop ((i + 1) * 65536) o))) (sym (c.add_block-s.ensures ∙ ap (λ (x : List ℕ). ones_from c.loop-block.s (words_in x)) b))
