-- `builder::lay` meets its contract: the decision says that the frame fits, and the key. Assumes nothing.
use borrow.Author.Rules.{rules}
use mathlib.Core.Path.{ap, ◌∙◌}
use Rattle.std.specs.Prelude.{Ok}
use Rattle.builder.specs.declared.order.Order.{Order}
use Rattle.builder.proofs.Ends.{ready, ready_by, plain-level, key-inside, plain-as, keyed-as}
use Rattle.builder.proofs.lay.Goals as goal

pub new-draft-requires : goal.new-draft-requires
new-draft-requires c = ready_by _ _ _ _ _ c.settings.ensures (ready _ _ _ _ c.requires)

pub put_plain-requires : goal.put_plain-requires
put_plain-requires c = rw (← ap (λ (r : Order). r.q) c.new-draft.ensures.order) at (plain-level _ _ _ _ (c.requires ∙ ap Ok c.in-None.is))

pub key_of-requires : goal.key_of-requires
key_of-requires c = key-inside _ _ _ _ _ c.args.site.holds (c.requires ∙ ap Ok c.in-Some.is)

pub returns-in-None : goal.returns-in-None
returns-in-None c = let d = c.new-draft.ensures in
    plain-as _ _ _ _ _ _ c.settings.ensures d.header d.order c.in-None.is c.put_plain.ensures

pub returns-in-Some : goal.returns-in-Some
returns-in-Some c = let d = c.new-draft.ensures in
    keyed-as _ _ _ _ _ _ _ _ _ _ _ _ c.settings.ensures d.header d.order c.in-Some.is c.own_counter-counter.ensures
    c.key_of.ensures c.new.ensures c.nonce.ensures (search rules) c.put_secured.ensures
