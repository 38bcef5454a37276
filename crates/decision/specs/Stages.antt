-- What a private stage of concluding answers; no public contract names it.
use Rattle.std.specs.Prelude.{Bool, cond}
use Rattle.decision.specs.declared.Refusal.{Refusal}

-- what is reported of a refusal, if the datagram is silenced
abbrev pub reported : Bool → Refusal → Refusal
reported quiet r = record { number = r.number; kind = cond quiet 0 r.kind; code = cond quiet 0 r.code; pointer = cond quiet 0 r.pointer }
