-- Where the file is refused, or has no port of a number that is asked, nothing passes.
use Rattle.std.specs.Prelude.{false, ◌&&◌, List, ◌≡◌, ℕ}
use Rattle.port.specs.Port.{port_sound}
use Rattle.file_set.specs.declared.Set.{Set}
use Rattle.file_read.specs.File.{file_reading}
use Rattle.forward_rules.specs.Forward.{forward_of}
use Rattle.route_ports.specs.Ports.{port_at}
use Rattle.forward_batch.specs.Batch.{forwarding_in}
use Rattle.export_batch.specs.Batch.{gateway_of}

-- a refused file has no sound port of any number
abbrev pub RefusedFile : Type 0
RefusedFile = (o : List ℕ) (room : ℕ) → ((file_reading o room).verdict ≡ 0 → ⊥) → (i : ℕ) → port_sound (port_at (file_reading o room).set.ports i) ≡ false

-- without an arriving or a leaving port that is sound no datagram is forwarded
abbrev pub NoPort : Type 0
NoPort = (s : Set) (ns : List ℕ) (a l : ℕ) → (port_sound (port_at s.ports a) && port_sound (port_at s.ports l)) ≡ false → (r : List ℕ)
    → (forward_of (forwarding_in (gateway_of s ns a l) r)).number ≡ 0 → ⊥
