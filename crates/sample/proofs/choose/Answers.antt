-- `sample::choose` meets its contract.
use borrow.Author.Rules.{rules}
use native.Mathlib.Omega.{arith}
use mathlib.Core.Path.{◌≡◌, refl, ap}
use lib.ListN.{length}
use Rattle.label.proofs.Steps.{length_mapped}
use Rattle.route_ports.specs.Ports.{unlisted_port, port_at}
use Rattle.sample.specs.declared.Choice.{Choice}
use Rattle.sample.proofs.Choices.{inside, is_closed, not_accepted, too_few, enough, none_opened, first_opened}
use Rattle.sample.proofs.choose.Goals as goal

pub returns-then-verdict-ne-ACCEPTED-clause-chosen : goal.returns-then-verdict-ne-ACCEPTED-clause-chosen
returns-then-verdict-ne-ACCEPTED-clause-chosen c =
    is_closed c.args.verdict c.args.set c.args.rows.now (not_accepted c.args.verdict c.args.set c.args.rows.now c.if-verdict-ne-ACCEPTED.true)

pub returns-then-set-lt2-clause-chosen : goal.returns-then-set-lt2-clause-chosen
returns-then-set-lt2-clause-chosen c =
    is_closed c.args.verdict c.args.set c.args.rows.now (too_few c.args.verdict c.args.set c.args.rows.now c.if-verdict-ne-ACCEPTED.false c.if-set-lt2.true)

ports-sized : (c : goal.After-with_table) → length c.args.set.ports ≡ 16
ports-sized c = search (length_mapped, rules)

pub returns-then-set-eq0 : goal.returns-then-set-eq0
unfolding port_at
returns-then-set-eq0 c =
    let l : length c.args.set.ports ≡ 16 = ports-sized c in
    let a : c.with_table.result.at ≡ c.first_table-none.result.at = ap (λ (x : Choice). x.at) c.with_table.ensures in
    let z : c.with_table.result.end ≡ c.first_table-none.result.end = ap (λ (x : Choice). x.end) c.with_table.ensures in record {
      chosen = none_opened c.args.verdict c.args.set c.args.rows.now (enough c.args.verdict c.args.set c.args.rows.now c.if-verdict-ne-ACCEPTED.false c.if-set-lt2.false) _ _
          (inside c.args.set.ports 0 _ unlisted_port (omega arith)) (inside c.args.set.ports 1 _ unlisted_port (omega arith)) c.first_table-none.result c.with_table.result c.with_table.ensures
          _ refl _ c.if-set-eq0.true c.first_table-none.ensures.0;
      in_bounds = (omega (arith, c.first_table-none.ensures.1), omega (arith, c.first_table-none.ensures.2));
    }

ports-sized-After-with_table-2 : (c : goal.After-with_table-2) → length c.args.set.ports ≡ 16
ports-sized-After-with_table-2 c = search (length_mapped, rules)

tables-sized : (c : goal.After-with_table-2) → length c.args.set.tables ≡ 8
tables-sized c = search (length_mapped, rules)

pub returns : goal.returns
unfolding port_at
returns c =
    let l : length c.args.set.ports ≡ 16 = ports-sized-After-with_table-2 c in
    let a : c.with_table-2.result.at ≡ c.first_table-found.result.at = ap (λ (x : Choice). x.at) c.with_table-2.ensures in
    let z : c.with_table-2.result.end ≡ c.first_table-found.result.end = ap (λ (x : Choice). x.end) c.with_table-2.ensures in record {
      chosen = first_opened c.args.verdict c.args.set c.args.rows.now (enough c.args.verdict c.args.set c.args.rows.now c.if-verdict-ne-ACCEPTED.false c.if-set-lt2.false) _ _
          (inside c.args.set.ports 0 _ unlisted_port (omega arith)) (inside c.args.set.ports 1 _ unlisted_port (omega arith)) c.first_table-found.result c.with_table-2.result c.with_table-2.ensures
          _ c.if-set-eq0.false (tables-sized c) c.first_table-found.ensures.0;
      in_bounds = (omega (arith, c.first_table-found.ensures.1), omega (arith, c.first_table-found.ensures.2));
    }
