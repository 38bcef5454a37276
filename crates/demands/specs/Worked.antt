-- Document 01, "The order of checks, and each number", "The leaving area" and "Numbers to try", and document 02, Wishes 3 and 10: worked decisions, in one table.
-- Both ports are of domain 5, so the renumbering table is not read. Every case is asked with no fact that silences, and as an ICMP error message.
use Rattle.std.specs.Prelude.{◌≡◌, true, false, List, [], ◌∷◌, ◌++◌, map, ℕ, replicate}
use Rattle.label.specs.declared.Label.{Label}
use Rattle.label.specs.Runs.{run}
use Rattle.option.specs.Table.{every_other}
use Rattle.option.specs.Permitted.{usual}
use Rattle.basic.specs.declared.Way.{Way}
use Rattle.port.specs.declared.Port.{Port}
use Rattle.port.specs.declared.Host.{Host}
use Rattle.port.specs.Port.{plain_port}
use Rattle.table.specs.Table.{Lent}
use Rattle.decision.specs.declared.Decision.{Decision}
use Rattle.decision.specs.declared.Facts.{Facts}
use Rattle.decision.specs.Decision.{silenced, no_fact}
use Rattle.forward_rules.specs.Crossing.{Forwarding}
use Rattle.forward_rules.specs.Forward.{forward_of, output_of}
use Rattle.deliver.specs.Delivery.{Delivery, deliver_of}

-- A label of domain 5 with at most one run; the all-zero label.
abbrev pub bare : ℕ → Label
bare v = record { domain = 5; level = v; count = 0; runs = replicate 120 (run 0 0) }

abbrev pub one : ℕ → ℕ → ℕ → Label
one v l h = record { domain = 5; level = v; count = 1; runs = run l h ∷ replicate 119 (run 0 0) }

abbrev pub nothing : Label
nothing = record { domain = 0; level = 0; count = 0; runs = replicate 120 (run 0 0) }

-- Ports: one that requires a label; one that gives it; one that gives a label with no spelling, 240, 242, .. 270.
abbrev pub requires : Port
requires = plain_port 5 (bare 1) (one 5 0 300) true nothing

abbrev pub assigns : Port
assigns = plain_port 5 (bare 1) (one 5 0 300) false (bare 3)

abbrev pub unspelled : Port
unspelled =
    plain_port 5 (bare 1) (one 5 0 300) false (record { domain = 5; level = 3; count = 16; runs = every_other 240 16 ++ replicate 104 (run 0 0) })

-- unsound: of domain 0; lowest above highest; an assigned label beside a required one, or out of range
abbrev pub ownerless : Port
ownerless = plain_port 0 (bare 1) (bare 5) true nothing

abbrev pub upside : Port
upside = plain_port 5 (bare 5) (bare 1) true nothing

abbrev pub needless : Port
needless = plain_port 5 (bare 1) (bare 5) true (bare 3)

abbrev pub misgiving : Port
misgiving = plain_port 5 (bare 1) (bare 5) false (bare 6)

-- the port it leaves by, and the host
abbrev pub beyond : Port
beyond = plain_port 5 (bare 2) (one 255 0 65534) true nothing

-- with option 130 read: Confidential (150) to Secret (90), no flags or the first alone; arriving, leaving, and unsound with a level that is none
abbrev pub two_fields : ℕ → ℕ → Way
two_fields low high = record { lowest = low; highest = high; count = 2; flags = 0 ∷ 8192 ∷ replicate 254 0 }

abbrev pub reads_basic : Way → Port
reads_basic way =
    record {
      domain = 5;
      lowest = bare 1;
      highest = one 5 0 300;
      required = false;
      assigned = bare 3;
      basic = record { on = true; receiving = way; sending = two_fields 150 90 };
      spellings = usual;
      unlabelled = false;
      default = nothing;
      strict = false;
    }

abbrev pub marked : Port
marked = reads_basic (two_fields 150 90)

abbrev pub unranked : Port
unranked = reads_basic (two_fields 150 91)

-- it sends no flags, and no level above Confidential
abbrev pub lesser : Port
lesser =
    record {
      domain = 5;
      lowest = bare 1;
      highest = one 5 0 300;
      required = false;
      assigned = bare 3;
      basic = record { on = true; receiving = two_fields 150 90; sending = record { lowest = 150; highest = 150; count = 1; flags = replicate 256 0 } };
      spellings = usual;
      unlabelled = false;
      default = nothing;
      strict = false;
    }

-- a port that stops slack spellings
abbrev pub strict : Port → Port
strict p =
    record {
      domain = p.domain;
      lowest = p.lowest;
      highest = p.highest;
      required = p.required;
      assigned = p.assigned;
      basic = p.basic;
      spellings = p.spellings;
      unlabelled = p.unlabelled;
      default = p.default;
      strict = true;
    }

-- in a domain of four octets, 1, 2, 3 and 4
abbrev pub bare_far : ℕ → Label
bare_far v = record { domain = 16909060; level = v; count = 0; runs = replicate 120 (run 0 0) }

abbrev pub far_port : Port
far_port = plain_port 16909060 (bare_far 1) (bare_far 5) true nothing

-- hosts: of one label; of another domain than the port's
abbrev pub one_label : Host
one_label = record { lowest = bare 3; highest = bare 3 }

abbrev pub foreign : Host
foreign = record { lowest = bare_far 1; highest = bare_far 5 }

abbrev pub host_behind : Host
host_behind = record { lowest = bare 2; highest = one 255 0 65534 }

-- A case: the port it arrives at, the area, and the job: forward by a port into an output of so many octets, each 9 before; or deliver to a host.
pub data Job : Type 0 where
  leave : Port → ℕ → Job
  stay : Host → Job

pub record Case : Type 0 where
  pub job : Job
  pub port : Port
  pub area : List ℕ
  pub answer : Decision
  pub output : List ℕ

-- each of the five facts alone; the first is that of an ICMP error message
abbrev pub error_message : Facts
error_message = record { error = true; group = false; link = false; fragment = false; source = false }

abbrev pub each_fact : List Facts
each_fact =
    error_message
    ∷ record { error = false; group = true; link = false; fragment = false; source = false }
    ∷ record { error = false; group = false; link = true; fragment = false; source = false }
    ∷ record { error = false; group = false; link = false; fragment = true; source = false }
    ∷ record { error = false; group = false; link = false; fragment = false; source = true }
    ∷ []

-- what is decided, and what the output then holds
pub record Answer : Type 0 where
  pub plain : Decision
  pub silent : Decision
  pub output : List ℕ
  pub silent_output : List ℕ

abbrev pub unread_table : Lent
unread_table = record { from = 0; to = 0; pairs = 0; count = 0; rows = [] }

abbrev pub forwarding : Port → Port → ℕ → Facts → List ℕ → Forwarding
forwarding p q n facts area = record { arriving = p; leaving = q; table = unread_table; levels = []; facts = facts; area = area; room = n }

abbrev pub delivery : Port → Host → Facts → List ℕ → Delivery
delivery p h facts area = record { port = p; host = h; facts = facts; area = area }

abbrev pub answer_to : Job → Port → List ℕ → Answer
answer_to (leave q n) p area =
    record {
      plain = forward_of (forwarding p q n no_fact area);
      silent = forward_of (forwarding p q n error_message area);
      output = output_of (forwarding p q n no_fact area) (replicate n 9);
      silent_output = output_of (forwarding p q n error_message area) (replicate n 9);
    }
answer_to (stay h) p area =
    record {
      plain = deliver_of (delivery p h no_fact area);
      silent = deliver_of (delivery p h error_message area);
      output = [];
      silent_output = [];
    }

-- silenced, the number stays and the report is silent
abbrev pub silenced_answer : Decision → Decision
silenced_answer d = record { number = d.number; kind = 0; code = 0; pointer = 0; count = d.count; label = d.label }

abbrev pub awaited : Case → Answer
awaited c =
    record {
      plain = c.answer;
      silent = silenced_answer c.answer;
      output = c.output;
      silent_output = c.output;
    }

-- a refusal: number, type, code, pointer
abbrev pub drop : ℕ → ℕ → ℕ → ℕ → Decision
drop n k c p = record { number = n; kind = k; code = c; pointer = p; count = 0; label = nothing }

-- forwarded with so many octets, or delivered with 0
abbrev pub pass : ℕ → Label → Decision
pass n l = record { number = 0; kind = 0; code = 0; pointer = 0; count = n; label = l }

-- a forwarding into 41 octets: refused, or what the first 40 hold
abbrev pub blocked : Port → Port → List ℕ → Decision → Case
blocked p q area d = record { job = leave q 41; port = p; area = area; answer = d; output = replicate 41 9 }

abbrev pub sent : Port → List ℕ → ℕ → Label → List ℕ → Case
sent p area n l o = record { job = leave beyond 41; port = p; area = area; answer = pass n l; output = o ++ (9 ∷ []) }

abbrev pub handed : Port → Host → List ℕ → Decision → Case
handed p h area d = record { job = stay h; port = p; area = area; answer = d; output = [] }

-- refused alike by both jobs
pub record Bad : Type 0 where
  pub port : Port
  pub area : List ℕ
  pub answer : Decision

abbrev pub bad : Port → List ℕ → Decision → Bad
bad p area d = record { port = p; area = area; answer = d }

-- an option: its length, its domain's last octet, its tag's type and length, alignment, level and categories
abbrev pub option : ℕ → ℕ → ℕ → ℕ → ℕ → ℕ → List ℕ → List ℕ
option n d t m a v b = 134 ∷ n ∷ 0 ∷ 0 ∷ 0 ∷ d ∷ t ∷ m ∷ a ∷ v ∷ b

-- level v, no categories; zeros up to 40
abbrev pub empty : ℕ → List ℕ → List ℕ
empty v rest = option 10 5 1 4 0 v rest

abbrev pub refusals : List Bad
refusals =
    -- 1: not a multiple of 4; over 40
    bad requires (0 ∷ 0 ∷ 0 ∷ []) (drop 1 0 0 0)
    ∷ bad requires (replicate 44 0) (drop 1 0 0 0)
    -- 2: the port
    ∷ bad ownerless (130 ∷ 4 ∷ 0 ∷ 0 ∷ []) (drop 2 0 0 0)
    ∷ bad upside [] (drop 2 0 0 0)
    ∷ bad needless [] (drop 2 0 0 0)
    ∷ bad misgiving [] (drop 2 0 0 0)
    -- 3: a length octet that is missing, under 2, past the area; before 4 and 5 in one option
    ∷ bad assigns (1 ∷ 1 ∷ 1 ∷ 7 ∷ []) (drop 3 12 0 23)
    ∷ bad assigns (1 ∷ 7 ∷ 1 ∷ 0 ∷ []) (drop 3 12 0 21)
    ∷ bad assigns (7 ∷ 5 ∷ 0 ∷ 0 ∷ []) (drop 3 12 0 20)
    ∷ bad assigns (1 ∷ 133 ∷ 4 ∷ 0 ∷ []) (drop 3 12 0 21)
    ∷ bad requires (empty 3 (134 ∷ 3 ∷ [])) (drop 3 12 0 30)
    -- 4: 130 and 133, met before a second 134; 5
    ∷ bad assigns (130 ∷ 4 ∷ 0 ∷ 0 ∷ []) (drop 4 12 0 20)
    ∷ bad assigns (1 ∷ 133 ∷ 3 ∷ 0 ∷ []) (drop 4 12 0 21)
    ∷ bad requires (empty 3 (133 ∷ 2 ∷ 134 ∷ 2 ∷ 0 ∷ 0 ∷ [])) (drop 4 12 0 30)
    ∷ bad requires (empty 3 (134 ∷ 2 ∷ [])) (drop 5 12 0 30)
    -- 6: nothing; type 1 only; a 134 behind type 0
    ∷ bad requires [] (drop 6 12 1 134)
    ∷ bad requires (1 ∷ 1 ∷ 1 ∷ 1 ∷ []) (drop 6 12 1 134)
    ∷ bad requires (0 ∷ 134 ∷ 2 ∷ 0 ∷ []) (drop 6 12 1 134)
    -- 7; 8: domain 0 in a first option, and after one type 1 octet; not the port's
    ∷ bad requires (134 ∷ 8 ∷ 0 ∷ 0 ∷ 0 ∷ 0 ∷ 3 ∷ 0 ∷ []) (drop 7 12 0 21)
    ∷ bad requires (option 10 0 3 5 1 3 (0 ∷ 0 ∷ [])) (drop 8 12 0 22)
    ∷ bad requires (1 ∷ option 10 0 1 4 0 3 (0 ∷ [])) (drop 8 12 0 23)
    ∷ bad requires (option 10 6 1 4 0 3 (0 ∷ 0 ∷ [])) (drop 8 12 0 22)
    -- 9; 10: too short, past the option, odd; 11
    ∷ bad requires (option 10 5 3 5 1 3 (0 ∷ 0 ∷ [])) (drop 9 12 0 26)
    ∷ bad requires (option 10 5 1 3 1 3 (0 ∷ 0 ∷ [])) (drop 10 12 0 27)
    ∷ bad requires (1 ∷ option 10 5 1 5 1 3 (0 ∷ [])) (drop 10 12 0 28)
    ∷ bad requires (option 11 5 2 5 1 3 (0 ∷ 0 ∷ [])) (drop 10 12 0 27)
    ∷ bad requires (option 12 5 2 6 1 3 (255 ∷ 255 ∷ [])) (drop 11 12 0 28)
    -- 12: a first and a second bad number; a second bad pair; 13
    ∷ bad requires (option 12 5 2 6 0 3 (255 ∷ 255 ∷ [])) (drop 12 12 0 30)
    ∷ bad requires (1 ∷ option 15 5 2 8 0 3 (0 ∷ 7 ∷ 0 ∷ 7 ∷ 0 ∷ [])) (drop 12 12 0 33)
    ∷ bad requires (option 18 5 5 12 0 3 (0 ∷ 9 ∷ 0 ∷ 8 ∷ 0 ∷ 8 ∷ 0 ∷ 1 ∷ 0 ∷ 0 ∷ [])) (drop 12 12 0 34)
    ∷ bad requires (option 11 5 1 4 0 9 (0 ∷ 0 ∷ [])) (drop 13 12 0 30)
    -- 23: a trailing zero octet, touching pairs, a last bottom of 0 written out; 12 before it, 13 and 19 after it, 13 of a spelling that is not slack
    ∷ bad (strict requires) (option 12 5 1 6 0 3 (128 ∷ 0 ∷ [])) (drop 23 12 0 30)
    ∷ bad (strict assigns) (option 18 5 5 12 0 3 (1 ∷ 44 ∷ 1 ∷ 43 ∷ 1 ∷ 42 ∷ 1 ∷ 41 ∷ 0 ∷ 0 ∷ [])) (drop 23 12 0 30)
    ∷ bad (strict requires) (1 ∷ option 14 5 5 8 0 3 (0 ∷ 7 ∷ 0 ∷ 0 ∷ 0 ∷ [])) (drop 23 12 0 31)
    ∷ bad (strict requires) (option 18 5 5 12 0 3 (0 ∷ 7 ∷ 0 ∷ 5 ∷ 0 ∷ 9 ∷ 0 ∷ 0 ∷ 0 ∷ 0 ∷ [])) (drop 12 12 0 34)
    ∷ bad (strict requires) (option 13 5 1 6 0 9 (128 ∷ 0 ∷ 7 ∷ 0 ∷ 0 ∷ 0 ∷ [])) (drop 23 12 0 30)
    ∷ bad (strict requires) (option 12 5 1 5 0 9 (128 ∷ 0 ∷ [])) (drop 13 12 0 31)
    ∷ bad (strict marked) (option 12 5 1 6 0 3 (128 ∷ 0 ∷ 130 ∷ 3 ∷ 91 ∷ 0 ∷ [])) (drop 23 12 0 30)
    -- with option 130 read: 2, a level that is none of the four; 3; 4 is 133 alone; 5, a second one
    ∷ bad unranked (130 ∷ 3 ∷ 90 ∷ 0 ∷ []) (drop 2 0 0 0)
    ∷ bad marked (130 ∷ 5 ∷ 90 ∷ 0 ∷ []) (drop 3 12 0 20)
    ∷ bad marked (1 ∷ 133 ∷ 2 ∷ 0 ∷ []) (drop 4 12 0 21)
    ∷ bad marked (130 ∷ 3 ∷ 90 ∷ 130 ∷ 3 ∷ 90 ∷ 0 ∷ 0 ∷ []) (drop 5 12 0 23)
    -- 13 before 19; 19: a level that is none, a flag octet that says another follows; 20
    ∷ bad marked (option 11 5 1 4 0 3 (0 ∷ 130 ∷ 3 ∷ 91 ∷ 0 ∷ 0 ∷ [])) (drop 13 12 0 30)
    ∷ bad marked (1 ∷ 130 ∷ 3 ∷ 91 ∷ []) (drop 19 12 0 21)
    ∷ bad marked (130 ∷ 4 ∷ 90 ∷ 129 ∷ []) (drop 19 12 0 20)
    ∷ bad marked [] (drop 20 12 1 130)
    ∷ []

abbrev pub others : List Case
others =
    -- 1: an output under 40 octets, before 2
    record { job = leave beyond 39; port = ownerless; area = []; answer = drop 1 0 0 0; output = replicate 39 9 }
    -- 2: the leaving port; the host
    ∷ blocked requires upside [] (drop 2 0 0 0)
    ∷ handed requires (record { lowest = bare 5; highest = bare 1 }) [] (drop 2 0 0 0)
    -- 14: below the lowest; above the highest; a category that the highest lacks. The gateway's code is 9, the host's 10
    ∷ blocked requires beyond (empty 0 (0 ∷ 0 ∷ [])) (drop 14 3 9 0)
    ∷ handed requires host_behind (empty 0 (0 ∷ 0 ∷ [])) (drop 14 3 10 0)
    ∷ blocked requires beyond (empty 6 (0 ∷ 0 ∷ [])) (drop 14 3 9 0)
    ∷ handed requires host_behind (empty 6 (0 ∷ 0 ∷ [])) (drop 14 3 10 0)
    ∷ blocked requires beyond (option 12 5 2 6 0 3 (1 ∷ 45 ∷ [])) (drop 14 3 9 0)
    ∷ handed requires host_behind (option 12 5 2 6 0 3 (1 ∷ 45 ∷ [])) (drop 14 3 10 0)
    -- 21 at the arriving port, before 14: Top Secret is above the range, Unclassified below it though its octet is larger; a field that is not permitted
    ∷ blocked marked marked (130 ∷ 3 ∷ 61 ∷ 0 ∷ []) (drop 21 3 9 0)
    ∷ handed marked host_behind (130 ∷ 3 ∷ 171 ∷ empty 0 (0 ∷ 0 ∷ 0 ∷ [])) (drop 21 3 10 0)
    ∷ handed marked host_behind (130 ∷ 4 ∷ 90 ∷ 64 ∷ []) (drop 21 3 10 0)
    -- 21 at the leaving port, before 14: its level, its flags; a 130 toward a port without it; none toward one with it
    ∷ blocked marked lesser (130 ∷ 3 ∷ 90 ∷ empty 0 (0 ∷ 0 ∷ 0 ∷ [])) (drop 21 3 9 0)
    ∷ blocked marked lesser (130 ∷ 4 ∷ 150 ∷ 128 ∷ []) (drop 21 3 9 0)
    ∷ blocked marked beyond (130 ∷ 3 ∷ 150 ∷ 0 ∷ []) (drop 21 3 9 0)
    ∷ blocked assigns marked [] (drop 21 3 9 0)
    ∷ blocked marked marked (130 ∷ 3 ∷ 150 ∷ empty 6 (0 ∷ 0 ∷ 0 ∷ [])) (drop 14 3 9 0)
    -- 15, of a delivery; 17, of a forwarding: below the range that comes next
    ∷ handed requires host_behind (empty 1 (0 ∷ 0 ∷ [])) (drop 15 3 10 0)
    ∷ blocked requires beyond (empty 1 (0 ∷ 0 ∷ [])) (drop 17 3 9 0)
    -- 18: a kept option of 31 octets beside an empty label; no spelling
    ∷ blocked assigns beyond (148 ∷ 31 ∷ replicate 30 0) (drop 18 3 9 0)
    ∷ blocked unspelled beyond [] (drop 18 3 9 0)
    -- a host of one label takes that label alone; one of another domain is unsound
    ∷ handed requires one_label (empty 3 (0 ∷ 0 ∷ [])) (pass 0 (bare 3))
    ∷ handed requires one_label (empty 2 (0 ∷ 0 ∷ [])) (drop 15 3 10 0)
    ∷ handed requires one_label (empty 4 (0 ∷ 0 ∷ [])) (drop 15 3 10 0)
    ∷ handed requires foreign [] (drop 2 0 0 0)
    -- the domain is four octets, big-endian, read and written
    ∷ handed far_port foreign (134 ∷ 10 ∷ 1 ∷ 2 ∷ 3 ∷ 4 ∷ 1 ∷ 4 ∷ 0 ∷ 3 ∷ 0 ∷ 0 ∷ []) (pass 0 (bare_far 3))
    ∷ handed far_port foreign (134 ∷ 10 ∷ 4 ∷ 3 ∷ 2 ∷ 1 ∷ 1 ∷ 4 ∷ 0 ∷ 3 ∷ 0 ∷ 0 ∷ []) (drop 8 12 0 22)
    ∷ record {
      job = leave far_port 41;
      port = far_port;
      area = 134 ∷ 10 ∷ 1 ∷ 2 ∷ 3 ∷ 4 ∷ 1 ∷ 4 ∷ 0 ∷ 3 ∷ 0 ∷ 0 ∷ [];
      answer = pass 12 (bare_far 3);
      output = 134 ∷ 10 ∷ 1 ∷ 2 ∷ 3 ∷ 4 ∷ 1 ∷ 4 ∷ 0 ∷ 3 ∷ (replicate 30 0 ++ (9 ∷ []));
    }
    -- delivered: the own label, the assigned one, with no spelling too
    ∷ handed requires host_behind (empty 3 (0 ∷ 0 ∷ [])) (pass 0 (bare 3))
    ∷ handed assigns host_behind [] (pass 0 (bare 3))
    ∷ handed assigns host_behind (148 ∷ 31 ∷ replicate 30 0) (pass 0 (bare 3))
    ∷ handed unspelled host_behind [] (pass 0 unspelled.assigned)
    -- forwarded: the own label, 12 octets; the assigned one beside nothing and beside a kept option of 30 octets, 40
    ∷ sent requires (empty 3 (0 ∷ 0 ∷ [])) 12 (bare 3) (empty 3 (replicate 30 0))
    ∷ sent assigns [] 12 (bare 3) (empty 3 (replicate 30 0))
    ∷ sent assigns (148 ∷ 30 ∷ (replicate 28 7 ++ (0 ∷ 0 ∷ []))) 40 (bare 3) (empty 3 (148 ∷ 30 ∷ replicate 28 7))
    -- kept options in order, without types 0 and 1 and what follows type 0: 13 octets are padded to 16, 17 to 20
    ∷ sent requires (1 ∷ empty 3 (7 ∷ 3 ∷ 4 ∷ 0 ∷ 134 ∷ [])) 16 (bare 3) (empty 3 (7 ∷ 3 ∷ 4 ∷ replicate 27 0))
    ∷ sent requires (7 ∷ 3 ∷ 4 ∷ 1 ∷ empty 3 (148 ∷ 4 ∷ 0 ∷ 0 ∷ 1 ∷ 0 ∷ [])) 20 (bare 3) (empty 3 (7 ∷ 3 ∷ 4 ∷ 148 ∷ 4 ∷ replicate 25 0))
    -- option 130 stays among the kept options, octet for octet, also with a flag octet that has no flags
    ∷ record {
      job = leave marked 41;
      port = marked;
      area = 130 ∷ 5 ∷ 90 ∷ 129 ∷ 0 ∷ empty 3 (0 ∷ []);
      answer = pass 16 (bare 3);
      output = empty 3 (130 ∷ 5 ∷ 90 ∷ 129 ∷ 0 ∷ (replicate 25 0 ++ (9 ∷ [])));
    }
    ∷ handed marked host_behind (7 ∷ 3 ∷ 4 ∷ 130 ∷ 3 ∷ 150 ∷ 0 ∷ 0 ∷ []) (pass 0 (bare 3))
    -- in its one spelling: {16} from a bitmap, {297..300} from touching pairs, none from tag 5
    ∷ sent requires (option 13 5 1 7 0 3 (0 ∷ 0 ∷ 128 ∷ 0 ∷ 0 ∷ 0 ∷ [])) 12 (one 3 16 16) (option 12 5 2 6 0 3 (0 ∷ 16 ∷ replicate 28 0))
    ∷ sent requires (option 18 5 5 12 0 3 (1 ∷ 44 ∷ 1 ∷ 43 ∷ 1 ∷ 42 ∷ 1 ∷ 41 ∷ 1 ∷ 1 ∷ [])) 16 (one 3 297 300) (option 14 5 5 8 0 3 (1 ∷ 44 ∷ 1 ∷ 41 ∷ replicate 26 0))
    ∷ sent requires (option 10 5 5 4 0 5 (0 ∷ 0 ∷ [])) 12 (bare 5) (empty 5 (replicate 30 0))
    -- past a strict port: ten octets of bitmap, a last bottom that is left out; the mark of the port that it leaves by is not read
    ∷ sent (strict requires) (option 20 5 1 14 0 3 (128 ∷ replicate 9 0)) 12 (one 3 0 0) (option 11 5 1 5 0 3 (128 ∷ replicate 29 0))
    ∷ sent (strict requires) (option 12 5 5 6 0 3 (0 ∷ 16 ∷ [])) 12 (one 3 0 16) (option 12 5 5 6 0 3 (0 ∷ 16 ∷ replicate 28 0))
    ∷ handed (strict requires) host_behind (option 12 5 2 6 0 3 (1 ∷ 0 ∷ [])) (pass 0 (one 3 256 256))
    ∷ record {
      job = leave (strict beyond) 41;
      port = requires;
      area = option 12 5 1 6 0 3 (128 ∷ 0 ∷ []);
      answer = pass 12 (one 3 0 0);
      output = option 11 5 1 5 0 3 (128 ∷ (replicate 29 0 ++ (9 ∷ [])));
    }
    ∷ []

abbrev pub in_gateway : Bad → Case
in_gateway b = blocked b.port beyond b.area b.answer

abbrev pub to_host : Bad → Case
to_host b = handed b.port host_behind b.area b.answer

abbrev pub cases : List Case
cases = map in_gateway refusals ++ (map to_host refusals ++ others)

abbrev pub case_answer : Case → Answer
case_answer c = answer_to c.job c.port c.area

-- any of the five facts alone silences, and none does not
abbrev pub WorkedDecisions : Type 0
WorkedDecisions =
    (map case_answer cases ≡ map awaited cases)
    × (map silenced each_fact ≡ true ∷ true ∷ true ∷ true ∷ true ∷ [])
    × (silenced no_fact ≡ false)
