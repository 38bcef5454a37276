-- The theorems of `specs/Theorems.antt`.
use mathlib.Core.Path.{◌≡◌, sym, ◌∙◌, ap}
use mathlib.Core.Bool.{true}
use mathlib.Core.List.{List}
use Prim.Native.Nat.{ℕ, ◌/◌}
use lib.ListN.{length, take}
use borrow.Author.Tests.{le-leb, lt-leb}
use Rattle.label.specs.declared.Label.{Label}
use Rattle.table.specs.declared.Row.{Row}
use Rattle.table.specs.Table.{Lent, used_rows, table_sound}
use Rattle.table_levels.specs.Levels.{partner_of}
use Rattle.table.specs.Numbers.{sends}
use Rattle.table.proofs.Sound.{sound, sound_rows}
use Rattle.table.proofs.Numbers.{has_number_lem, number_has, one_category}
use Rattle.renumber.specs.Renumber.{renumbered_as, renumbered_of}
use Rattle.renumber.specs.Theorems.{Far}
use Rattle.renumber.proofs.Theorems.{Led, led, renumbering}
use Rattle.renumber_reverse.specs.Reverse.{turned_levels, reverse_table, reversed_of, with_rows}
use Rattle.renumber_reverse.specs.Theorems.{TurnedRound, Reversing, ReverseRefused}
use Rattle.renumber_reverse.proofs.Rows.{sends_turned}
use Rattle.renumber_reverse.proofs.Levels.{take_turned, partner_back, levels_twice}
use Rattle.renumber_reverse.proofs.Tables.{used_few, back_used, back_sound, back_twice}

turned_round : (t : Lent) (ls : List (List ℕ)) → table_sound t ls ≡ true → TurnedRound t ls
turned_round t ls s =
    let p = sound t ls s in
    let r = sound_rows t p.rows in
    record {
      categories = λ c d. ap (λ (z : List Row). sends z d c) (back_used t ls s) ∙ sends_turned (used_rows t) c d (used_few t ls s) r.rise;
      levels = λ v w h. ap (λ (z : List (List ℕ)). partner_of z w) (take_turned t.pairs ls) ∙ partner_back 0 0 (take t.pairs ls) v w p.levels h;
    }

-- the first label is the far one's label in the domain that it came from
far_back : (l : Label) (t : Lent) (ls : List (List ℕ)) (m : Label) → Led l t ls m → Far l t ls m → Far m (reverse_table t) (turned_levels ls) l
unfolding reverse_table
far_back l t ls m k f =
    let s = k.sound in
    let r = sound_rows t (sound t ls s).rows in
    let turn = turned_round t ls s in
    record {
      formed = k.formed;
      domain = k.domain;
      level = turn.levels l.level m.level k.level;
      whole = λ d h. let c = f.from d h in number_has (used_rows (reverse_table t)) d c.0 (turn.categories c.0 d ∙ c.2);
      to = λ d c h g.
          let x = f.from d h in
          let e : x.0 ≡ c = one_category 0 (used_rows t) x.0 c d r.rise r.apart x.2 (sym (turn.categories c d) ∙ g) in
          rw e at x.1;
      from = λ c h.
          let d = has_number_lem 0 (used_rows t) c r.rise (f.whole c h) in
          (d.0, f.to c d.0 h d.1, turn.categories c d.0 ∙ d.1);
    }

home : (t : Lent) (d : ℕ) → d ≡ t.to → d ≡ (reverse_table t).from
unfolding reverse_table
home t d h = h

out_and_back : (l : Label) (t : Lent) (ls : List (List ℕ)) (m : Label) → renumbered_of l t ls ≡ renumbered_as m → renumbered_of m (reverse_table t) (turned_levels ls) ≡ renumbered_as l
out_and_back l t ls m e =
    let k = led l t ls m e in
    let f = renumbering.right l t ls m e in
    renumbering.found m (reverse_table t) (turned_levels ls) l (back_sound t ls k.sound) f.formed (home t m.domain f.domain) (far_back l t ls m k f)

pub reversing : Reversing
reversing = record { sound = back_sound; twice = back_twice; pairs = levels_twice; turned = turned_round; back = out_and_back }

pub reverse_refused : ReverseRefused
unfolding reversed_of with_rows
reverse_refused =
    record {
      unsound = λ t ls was e. (rw e, rw e, rw e);
      short = λ t ls was e h. let k = lt-leb t.count (length was / 3) h in (rw (e, k), rw (e, k), rw (e, k));
      given = λ t ls was e h.
          let k = le-leb t.count (length was / 3) h in
          (record { from = t.to; to = t.from; pairs = t.pairs; count = t.count }, rw (e, k), rw (e, k));
    }
