-- `option_read::read_option` meets its contract.
use native.Mathlib.Omega.{arith}
use mathlib.Core.Path.{◌∙◌, ap}
use mathlib.Core.Bool.{true}
use Prim.Native.Nat.{ℕ}
use lib.ListN.{take}
use Rattle.std.specs.Prelude.{Ok}
use Rattle.label_keys.specs.Keys.{key_runs, label_from}
use Rattle.option_read.specs.Stages.{ReadsRows}
use Rattle.option_read.proofs.Keys.{checked_alone}
use Rattle.option_read.proofs.read_option.Goals as goal

pub returns : goal.returns
returns c =
    let k = c.in_ok-read.read in
    let keys = c.read_checked.new.keys in
    let t : ReadsRows true 0 c.args.octets.now _ keys (Ok k) = rw c.in_ok-read.was at c.read_checked.ensures.read (omega arith) in
    let n = k.count in
    checked_alone c.args.octets.now 0 k t (omega (arith, t.held)) _
    (c.to_label.ensures ∙ ap (λ (d : ℕ). label_from d k.level (key_runs (take n keys))) c.domain_in.ensures)
