-- Document 01, "The order of checks", and document 02, Wish 2: what is decided of a datagram, and what is reported of a refusal.
use Rattle.std.specs.Prelude.{Bool, false, cond, ◌||◌, ℕ}
use Rattle.std.proofs.Math.Option.{Option, none, some}
use Rattle.label.specs.declared.Label.{Label}
use Rattle.label.specs.Label.{zero_label}
use Rattle.decision.specs.declared.Decision.{Decision}
use Rattle.decision.specs.declared.Facts.{Facts}
use Rattle.decision.specs.declared.Refusal.{Refusal}

-- RFC 1122, section 3.2.2: no error goes out about an ICMP error message, a broadcast or multicast destination, a link-layer broadcast, a
-- fragment other than the first, or a source that is not one host; any of these facts silences
unfoldable pub silenced : Facts → Bool
silenced f = f.error || (f.group || (f.link || (f.fragment || f.source)))

-- none of them holds
abbrev pub no_fact : Facts
no_fact = record { error = false; group = false; link = false; fragment = false; source = false }

-- a refusal returns count 0 and an all-zero label; if the datagram is silenced, the number stays and the report is silent
abbrev pub refused : Bool → Refusal → Decision
refused quiet r =
    record {
      number = r.number;
      kind = cond quiet 0 r.kind;
      code = cond quiet 0 r.code;
      pointer = cond quiet 0 r.pointer;
      count = 0;
      label = zero_label;
    }

-- 0 is silent
abbrev pub done : Label → ℕ → Decision
done l n = record { number = 0; kind = 0; code = 0; pointer = 0; count = n; label = l }

abbrev pub decided : Bool → Option Refusal → Label → ℕ → Decision
decided quiet (some r) l n = refused quiet r
decided quiet none l n = done l n
