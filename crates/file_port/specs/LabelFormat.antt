-- docs/FILE.md, "A label". The layout's row: domain (4), level (1), run count (1), then low (2) and high (2) of each run.
use Rattle.std.specs.Prelude.{cond, refl, ℕ, ◌+◌, ◌-◌, eqb, length, replicate}
use Rattle.std.proofs.Math.Seq.{take-append_seam}
use Rattle.label.specs.declared.Run.{Run}
use Rattle.label.specs.declared.Label.{Label}
use Rattle.label.specs.Runs.{run}
use Rattle.label.specs.Label.{no_run, used, label_of}
use Rattle.file_format.specs.Format.{Format, one, two, four, number, ◌then◌, fields, counted}

-- low: from `floor` on. high: from its low to 65534
unfoldable pub run_format : ℕ → Format Run
run_format floor =
    fields
    (number two floor 65535
    then λ low. number two low 65534)
    (λ p. run p.0 p.1)
    (λ r. (r.low, r.high))
    (λ p. refl)

-- the next run begins at least 2 above the high before it
abbrev pub next_floor : ℕ → Run → ℕ
next_floor floor r = r.high + 2

-- of domain 0 there is only the all-zero label
abbrev pub unless0 : ℕ → ℕ → ℕ
unless0 domain most = cond (eqb domain 0) 0 most

-- a label of this domain
unfoldable pub label_format : ℕ → Format Label
label_format domain =
    fields
    (number four domain domain
    then λ d. number one 0 (unless0 domain 255)
    then λ level. counted run_format next_floor one (unless0 domain 120) 0)
    (λ p. label_of p.0 p.1.0 p.1.1)
    (λ l. (l.domain, (l.level, used l)))
    (λ p. rw (take-append_seam p.1.1 (replicate (120 - length p.1.1) no_run)))
