-- `file_port::port_size` meets its contract.
use Prim.Native.Nat.{ℕ}
use mathlib.Core.Bool.{true, cond, not}
use mathlib.Core.Path.{sym, ap, ◌∙◌}
use native.Mathlib.Omega.{arith}
use lib.ListN.{length}
use Rattle.file_port.proofs.LabelLaws.{any_domain, any_way, port_length}
use Rattle.file_port.proofs.port_size.Goals as goal

pub returns : goal.returns
returns c =
    let p = c.args.port in
    let d : ℕ = p.domain in
    let l = sym c.label_size.ensures.0 in
    let h = sym c.label_size-2.ensures.0 in
    let g = sym c.label_size-3.ensures.0 in
    let r = any_way p.basic.on true p.basic.receiving in
    let s = any_way p.basic.on true p.basic.sending in
    let f = sym c.label_size-4.ensures.0 in (
      sym (port_length p _ _ _ _ _ _
          (ap length (any_domain d p.lowest.domain p.lowest) ∙ l)
          (ap length (any_domain d p.highest.domain p.highest) ∙ h)
          (ap length (any_domain (cond p.required 0 d) p.assigned.domain p.assigned) ∙ g)
          (ap length (any_domain (cond (not p.unlabelled) 0 d) p.default.domain p.default) ∙ f)
          (ap length r ∙ sym c.way_size.ensures.0)
          (ap length s ∙ sym c.way_size-2.ensures.0)),
      omega (arith, c.label_size.ensures.1, c.label_size-2.ensures.1, c.label_size-3.ensures.1, c.way_size.ensures.1, c.way_size-2.ensures.1, c.label_size-4.ensures.1),
    )
