-- `message_reply::find_reply` meets its contract.
use mathlib.Core.Path.{◌≡◌, sym, ap, ◌∙◌}
use Rattle.std.specs.Prelude.{Ok, Some, None}
use Rattle.area.specs.Kinds.{Place, places}
use Rattle.area.specs.Area.{open_walk}
use Rattle.area.proofs.Laws.{open_placed}
use Rattle.message_reply.proofs.Laws.{reply_refused, reply_sound}
use Rattle.message_reply.proofs.find_reply.Goals as goal

-- the walk met an option 134 there
met : (c : goal.In-Some)
    → open_walk c.args.area.now ≡ Ok (places (Some c.in-Some.at) c.in-Ok.met.basic)
met c =
    sym c.walk_open.ensures ∙ c.in-Ok.is ∙ ap (λ (p : Place). Ok (places p c.in-Ok.met.basic)) c.in-Some.is

pub copy_at-requires : goal.copy_at-requires
copy_at-requires c =
    (open_placed c.args.area.now (Some c.in-Some.at) c.in-Ok.met.basic (met c)).0

pub returns-in-Err : goal.returns-in-Err
returns-in-Err c =
    sym (reply_refused c.args.area.now _ _ (sym c.walk_open.ensures ∙ c.in-Err.is))

pub returns-in-None : goal.returns-in-None
returns-in-None c =
    let basic = c.in-Ok.met.basic in
    sym (reply_sound c.args.area.now None basic (sym c.walk_open.ensures ∙ c.in-Ok.is ∙ ap (λ (p : Place). Ok (places p basic)) c.in-None.is))

-- the walk met an option 134 there
met-After-copy_at : (c : goal.After-copy_at)
    → open_walk c.args.area.now ≡ Ok (places (Some c.in-Some.at) c.in-Ok.met.basic)
met-After-copy_at c =
    sym c.walk_open.ensures ∙ c.in-Ok.is ∙ ap (λ (p : Place). Ok (places p c.in-Ok.met.basic)) c.in-Some.is

pub returns-in-Some : goal.returns-in-Some
returns-in-Some c =
    c.copy_at.ensures ∙ sym (reply_sound c.args.area.now (Some c.in-Some.at) c.in-Ok.met.basic (met-After-copy_at c))
