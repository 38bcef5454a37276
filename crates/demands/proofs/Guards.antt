-- What guards the definitions holds.
use Rattle.demands.specs.Guards.{Guards}
use Rattle.demands.proofs.Again.{counted, reads_again, default_label, reads_bare, forwarded_again}
use Rattle.demands.proofs.Pointers.{forward_inside, deliver_inside}
use Rattle.demands.proofs.Unlabelled.{unlabelled_decided, unlabelled_written, unlabelled_delivered}
use Rattle.demands.proofs.Order.{order_kept}

pub guards : Guards
guards =
    record {
      count = λ f o e. counted f e o;
      again = λ f out o e. reads_again f e out o;
      bare = λ f out o e. reads_bare f e out o;
      default = λ f o e. default_label f e o;
      same = λ f g out out' o o' e e' a d t s. forwarded_again f g out out' e e' a d t s o o';
      forward = forward_inside;
      deliver = deliver_inside;
      decided = unlabelled_decided;
      written = λ f g out out' u e. unlabelled_written f g u out out' e;
      delivered = unlabelled_delivered;
      order = order_kept;
    }
