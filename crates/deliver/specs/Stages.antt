-- What the stage of the host answers; no public contract names it.
use Rattle.std.specs.Prelude.{cond, List, ℕ, Ok, Err}
use Rattle.port.specs.declared.Host.{Host}
use Rattle.port.specs.Port.{host_sound}
use Rattle.decision.specs.Verdict.{Verdict, stopped, stopped_by}
use Rattle.arrive.specs.Stages.{held_between}

-- 15, where no check before it applies
abbrev pub held_by_host : Verdict → Host → List ℕ → Verdict
held_by_host (Ok p) h keys = cond (held_between h.lowest h.highest p keys) (Ok p) (stopped 15 3 10 0)
held_by_host (Err r) h keys = Err r

-- 2 of the host comes after 1 and before the others; then 15
unfoldable pub hosted_by : Verdict → Host → ℕ → List ℕ → Verdict
hosted_by r h domain keys = cond (stopped_by 1 r) r (cond (host_sound h domain) (held_by_host r h keys) (stopped 2 0 0 0))
