-- The theorem of `specs/Theorems.antt`.
use Rattle.route_decide.specs.Theorems.{Routes}
use Rattle.route_decide.proofs.Decides.{routed_of, output_of_lem, unrouted_of_lem, unwritten_of, unsound_of, untouched_of, tableless_of}

pub routes : Routes
routes =
    record {
      routed = λ b r e c. routed_of b e r c;
      output = λ b r out e c. output_of_lem b e r c out;
      unrouted = unrouted_of_lem;
      unwritten = λ b out e c. unwritten_of b e c out;
      unsound = unsound_of;
      untouched = λ b out e. untouched_of b e out;
      tableless = tableless_of;
    }
