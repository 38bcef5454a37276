-- `option_read::read_rows` meets its contract.
use native.Mathlib.Omega.{arith}
use mathlib.Core.Path.{◌≡◌, refl, sym, ◌∙◌}
use Rattle.option.specs.Option.{domain_of}
use Rattle.option_read.specs.Reading.{reading_by}
use Rattle.option_read.specs.Stages.{foreign_to, reading_both}
use Rattle.option_read.proofs.Checks.{stops7, stops8, goes_on}
use Rattle.option_read.proofs.Keys.{stops_three, past_three, foreign_none, stopped, tag_checked}
use Rattle.option_read.proofs.read_rows.Goals as goal

pub returns-then-unframed : goal.returns-then-unframed
returns-then-unframed c =
    let e = stops_three c.args.alone c.args.domain c.args.octets.now (sym c.unframed.ensures ∙ c.if-unframed.true) in
    stopped c.args.alone c.args.domain c.args.octets.now c.args.keys.now 3 0 (λ z. omega arith) e.0 e.1 _ c.refuse.ensures

-- past row 3
past : (c : goal.After-refuse-then-octets-lt-CATEGORIES_AT) → reading_both c.args.alone c.args.domain c.args.octets.now ≡ reading_by (foreign_to c.args.alone c.args.domain (domain_of c.args.octets.now)) c.args.octets.now
past c = past_three c.args.alone c.args.domain c.args.octets.now (sym c.unframed.ensures ∙ c.if-unframed.false)

pub returns-then-octets-lt-CATEGORIES_AT : goal.returns-then-octets-lt-CATEGORIES_AT
returns-then-octets-lt-CATEGORIES_AT c =
    stopped c.args.alone c.args.domain c.args.octets.now c.args.keys.now 7 1 (λ z. omega arith) (past c ∙ stops7 c.args.octets.now _ c.if-octets-lt-CATEGORIES_AT.true) (λ a. refl) _ c.refuse-then-octets-lt-CATEGORIES_AT.ensures

-- past row 3
past-After-refuse-then-foreign : (c : goal.After-refuse-then-foreign) → reading_both c.args.alone c.args.domain c.args.octets.now ≡ reading_by (foreign_to c.args.alone c.args.domain (domain_of c.args.octets.now)) c.args.octets.now
past-After-refuse-then-foreign c = past_three c.args.alone c.args.domain c.args.octets.now (sym c.unframed.ensures ∙ c.if-unframed.false)

-- row 8
foreign-is : (c : goal.After-refuse-then-foreign) → c.foreign.result ≡ foreign_to c.args.alone c.args.domain (domain_of c.args.octets.now)
foreign-is c = rw c.domain_in.ensures at c.foreign.ensures

pub returns-then-foreign : goal.returns-then-foreign
returns-then-foreign c =
    stopped c.args.alone c.args.domain c.args.octets.now c.args.keys.now 8 2 (λ z. omega arith) (past-After-refuse-then-foreign c ∙ stops8 c.args.octets.now _ (sym (foreign-is c) ∙ c.if-foreign.true) c.if-octets-lt-CATEGORIES_AT.false) (λ a. refl) _ c.refuse-then-foreign.ensures

-- row 8
foreign-is-After-slice_known-2-1 : (c : goal.After-slice_known-2-1) → c.foreign.result ≡ foreign_to c.args.alone c.args.domain (domain_of c.args.octets.now)
foreign-is-After-slice_known-2-1 c = rw c.domain_in.ensures at c.foreign.ensures

-- past row 3
past-After-slice_known-2-1 : (c : goal.After-slice_known-2-1) → reading_both c.args.alone c.args.domain c.args.octets.now ≡ reading_by (foreign_to c.args.alone c.args.domain (domain_of c.args.octets.now)) c.args.octets.now
past-After-slice_known-2-1 c = past_three c.args.alone c.args.domain c.args.octets.now (sym c.unframed.ensures ∙ c.if-unframed.false)

pub returns : goal.returns
returns c =
    let none = sym (foreign-is-After-slice_known-2-1 c) ∙ c.if-foreign.false in
    tag_checked c.args.alone c.args.domain c.read_tag.ensures (past-After-slice_known-2-1 c ∙ goes_on c.args.octets.now _ none c.if-octets-lt-CATEGORIES_AT.false) c.if-octets-lt-CATEGORIES_AT.false (foreign_none c.args.alone c.args.domain (domain_of c.args.octets.now) none)
