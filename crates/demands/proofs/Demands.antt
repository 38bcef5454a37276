-- The three demands hold.
use Rattle.demands.specs.Demands.{Demands}
use Rattle.demands.proofs.First.{demand1}
use Rattle.demands.proofs.Second.{demand2}
use Rattle.demands.proofs.Third.{demand3}

pub demands : Demands
demands = record { first = demand1; second = demand2; third = demand3 }
