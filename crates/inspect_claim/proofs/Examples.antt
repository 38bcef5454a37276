-- The rows of `specs/Examples.antt` are those that the definitions compute.
use mathlib.Core.Path.{refl}
use Rattle.inspect_claim.specs.Claim.{parses, claim_of}
use Rattle.inspect_claim.specs.Compare.{finding_of}
use Rattle.inspect_claim.specs.Examples.{WorkedClaims}

pub worked_claims : WorkedClaims
unfolding parses claim_of finding_of
worked_claims =
    record {
      says = refl;
      facts = refl;
      back = refl;
      claimed = refl;
      four = refl;
      three = refl;
      turned = refl;
      second = refl;
      zeroth = refl;
      error = refl;
      group = refl;
      link = refl;
      fragment = refl;
      source = refl;
      short = refl;
      long = refl;
      none = refl;
      agrees = refl;
      number = refl;
      pointer = refl;
      length = refl;
      octet = refl;
      last = refl;
      behind = refl;
    }
