-- `forward_cross::cross` meets its contract.
use mathlib.Core.Path.{sym, ◌∙◌, ap}
use lib.Dec.{eqb}
use lib.ListN.{take}
use Rattle.label_keys.specs.Keys.{key_runs}
use Rattle.table.specs.Table.{lent}
use Rattle.renumber_keys.specs.Carry.{CarryAnswer, image_of, carried_keys}
use Rattle.forward_cross.specs.Crossed.{numbered_by}
use Rattle.forward_cross.proofs.Laws.{crossed_same, crossed_refused, crossed_carried}
use Rattle.forward_cross.proofs.cross.Goals as goal

pub returns-then-domain-leaving : goal.returns-then-domain-leaving
returns-then-domain-leaving c =
    let a = c.args in
    let q = crossed_same a.domain a.leaving (lent a.table a.rows.now) a.levels a.own.now a.far.now a.arrived c.if-domain-leaving.true in record { value = sym q.0; far_after = c.copy_list.ensures ∙ sym q.1 }

pub returns-in-Err : goal.returns-in-Err
returns-in-Err c =
    let a = c.args in
    let q = crossed_refused a.domain a.leaving (lent a.table a.rows.now) a.levels a.own.now a.far.now c.in-Err.refusal c.if-domain-leaving.false in
    rw c.in-Err.is (record { value = c.check_table.ensures ∙ sym q.0; far_after = sym q.1 })

pub returns-in-Ok : goal.returns-in-Ok
returns-in-Ok c =
    let a = c.args in
    let p = c.in-Ok.passed in
    let q = crossed_carried a.domain a.leaving (lent a.table a.rows.now) a.levels a.own.now a.far.now p c.if-domain-leaving.false in
    rw c.in-Ok.is
    (record {
      value = c.number_over.ensures
          ∙ ap (λ (g : CarryAnswer). numbered_by g (eqb a.table.from a.domain) (eqb a.table.to a.leaving)) c.carry-carried.ensures.0
          ∙ sym q.0;
      far_after = c.carry-carried.ensures.1
          ∙ ap (λ (g : CarryAnswer). carried_keys g (image_of (lent a.table a.rows.now) (key_runs (take p.count a.own.now))) a.far.now) c.carry-carried.ensures.0
          ∙ sym q.1;
    })
