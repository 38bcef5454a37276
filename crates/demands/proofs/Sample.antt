-- The sample's lines. The renumbered set does not compute, so its members are shown, and the conditions of a forwarding give the rest.
use mathlib.Core.Path.{◌≡◌, refl, sym, subst}
use mathlib.Core.Bool.{true, false, ◌&&◌, true≢false}
use mathlib.Core.List.{List, [], ◌∷◌}
use mathlib.Core.Logic.{◌⊎◌, inl, inr}
use mathlib.Core.Option.{some}
use Prim.Native.Nat.{ℕ, ◌≤◌}
use native.Mathlib.Omega.{arith}
use lib.Dec.{leb, eqb}
use borrow.Author.Tests.{leb-true, eqb-true}
use Rattle.label.specs.declared.Label.{Label}
use Rattle.label.specs.Runs.{run, all_below, subset}
use Rattle.label.specs.Label.{label_of, well_formed, label_typed, member, at_most, leq, in_range, is_zero}
use Rattle.label.proofs.Bools.{and_left, and_right, or_cases, never}
use Rattle.option.specs.Option.{Means}
use Rattle.option.specs.Reading.{pieces}
use Rattle.option.specs.Permitted.{usual}
use Rattle.option.specs.Spelling.{least_form, form_for, body_for, spelled_by, spelling_of, spelled_of}
use Rattle.option.proofs.OneSpelling.{one_spelling}
use Rattle.option_read.specs.Reading.{reading_of, reading_for, reading_by, tag_checks, label_in}
use Rattle.option_slack.specs.Slack.{slack_body, slack}
use Rattle.option_slack.specs.Strict.{strict_reading}
use Rattle.option_read.proofs.Theorems.{reads}
use Rattle.area.specs.Area.{met_from, met_of, walk_of}
use Rattle.area_leaving.specs.Kept.{kept_of}
use Rattle.basic.specs.Settings.{way_zero, basic_sound}
use Rattle.std.specs.Prelude.{None}
use Rattle.port.specs.Port.{range_sound, assigned_sound, default_sound, port_sound}
use Rattle.table.specs.Table as tables
use Rattle.table.specs.Table.{used_rows, rows_sound, table_sound}
use Rattle.table_levels.specs.Levels.{levels_sound}
use Rattle.table.specs.Numbers.{sends, has_number}
use Rattle.renumber.specs.Theorems.{Far}
use Rattle.arrive.specs.Checks.{walk_check, required_check, option_check, bad_basic_check, arriving_basic, missing_basic_check, basic_range_check, arriving_label, range_check}
use Rattle.forward_rules.specs.Crossing.{sizes, records, leaving_basic_check, number_check}
use Rattle.decision.specs.Decision.{silenced}
use Rattle.forward_rules.specs.Forward.{forward_of}
use Rattle.demands.specs.Demands.{own, Forwards, neither}
use Rattle.sample_records.specs.Sample.{table, levels}
use Rattle.demands.specs.Sample.{sample, first, SampleLines}
use Rattle.demands.proofs.Second.{demand2}

abbrev near : Label
near = label_of 5 3 (run 0 0 ∷ [])

abbrev far : Label
far = label_of 9 4 (run 1000 1000 ∷ [])

-- a label of one category
only : (d v n c : ℕ) → member (label_of d v (run n n ∷ [])) c ≡ true → c ≡ n
unfolding member
only d v n c e = by (or_cases (leb n c && leb c n) false (and_right (well_formed (label_of d v (run n n ∷ []))) _ e))
  where
    by : ((leb n c && leb c n) ≡ true) ⊎ (false ≡ true) → c ≡ n
    by (inl h) =
        let a : n ≤ c = leb-true _ _ (and_left (leb n c) _ h) in
        let b : c ≤ n = leb-true _ _ (and_right (leb n c) _ h) in
        omega arith
    by (inr h) = absurd (never (sym h))

formed_near : well_formed near ≡ true
unfolding well_formed label_typed
formed_near = refl

formed_far : well_formed far ≡ true
unfolding well_formed label_typed
formed_far = refl

has_far : member far 1000 ≡ true
unfolding member well_formed label_typed
has_far = refl

has_near : member near 0 ≡ true
unfolding member well_formed label_typed
has_near = refl

sent : (d : ℕ) → sends (used_rows table) 0 d ≡ true → 1000 ≡ d
sent d e = by (or_cases (eqb 1000 d) false e)
  where
    by : (eqb 1000 d ≡ true) ⊎ (false ≡ true) → 1000 ≡ d
    by (inl h) = eqb-true _ _ h
    by (inr h) = absurd (never (sym h))

carried : Far near table levels far
carried =
    record {
      formed = formed_far;
      domain = refl;
      level = refl;
      whole = λ c m. subst (λ (x : ℕ). has_number (used_rows table) x ≡ true) (sym (only 5 3 0 c m)) refl;
      to = λ c d m s. subst (λ (x : ℕ). member far x ≡ true) (sent d (subst (λ (x : ℕ). sends (used_rows table) x d ≡ true) (only 5 3 0 c m) s)) has_far;
      from = λ d m. (0, has_near, subst (λ (x : ℕ). sends (used_rows table) 0 x ≡ true) (sym (only 9 4 1000 d m)) refl);
    }

means : Means first near
unfolding reading_of reading_by tag_checks label_in pieces
means = reads.alone.means first (omega arith) refl

abbrev spelling : List ℕ
spelling = 134 ∷ 12 ∷ 0 ∷ 0 ∷ 0 ∷ 9 ∷ 2 ∷ 6 ∷ 0 ∷ 4 ∷ 3 ∷ 232 ∷ []

is_spelled : spelled_of usual far ≡ some spelling
unfolding least_form form_for body_for spelled_by spelling_of
is_spelled = refl

apart : (◌≡◌ {A = ℕ} 5 9) → ⊥
apart e = omega arith

conditions : Forwards (sample first) near far spelling
unfolding subset all_below well_formed label_typed at_most leq in_range is_zero range_sound way_zero basic_sound assigned_sound default_sound port_sound met_from met_of walk_of kept_of tables.typed rows_sound levels_sound table_sound
conditions =
    record {
      area = record { few = omega arith; fourfold = refl };
      room = omega arith;
      arriving = refl;
      leaving = refl;
      table = λ d. refl;
      label = own 0 None refl means refl (λ e. absurd (true≢false (sym e)));
      basic = neither refl refl;
      arrives = refl;
      stays = λ e. absurd (apart e);
      from = λ d. refl;
      to = λ d. refl;
      numbered = λ d. carried;
      leaves = λ o. refl;
      spelled = λ o. (one_spelling.spells usual far spelling formed_far).0 is_spelled;
      fits = λ o. omega arith;
      default = λ o. absurd (true≢false (sym o));
      bare = λ o. absurd (true≢false (sym o));
    }

nothing_kept : kept_of first ≡ []
unfolding met_from met_of kept_of
nothing_kept = refl

pub sample_lines : SampleLines
unfolding subset all_below well_formed label_typed at_most leq in_range is_zero pieces reading_for reading_by tag_checks label_in strict_reading slack_body slack met_from met_of walk_of kept_of range_sound way_zero basic_sound assigned_sound default_sound port_sound tables.typed rows_sound levels_sound table_sound walk_check required_check option_check bad_basic_check arriving_basic missing_basic_check basic_range_check leaving_basic_check arriving_label range_check sizes records number_check silenced forward_of
sample_lines =
    record {
      forward = (demand2.always (sample first) near far spelling [] conditions).0;
      octets = λ out. (demand2.always (sample first) near far spelling out conditions).1;
      unlabelled = refl;
      unnumbered = refl;
    }
