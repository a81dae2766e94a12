-- `site::View::key_of` meets its contract: the array is a copy of sixteen octets of the keys. Assumes nothing.
use Rattle.std.proofs.Common.{rules, arith, ◌<◌, ◌≡◌, true}
use Rattle.meaning.specs.Records.{keys, key_at}
use Rattle.meaning.specs.Site.{count_of, site_rule}
use Rattle.meaning.proofs.Sites.{rule-few}
use Rattle.site.proofs.Laws.{key-room}
use Rattle.site.proofs.fields.View.key_of.Goals as goal

pub overflow_mul-at : goal.overflow_mul-at
overflow_mul-at c = let few : count_of c.args.self.octets.now keys < 65536 = rule-few _ (search rules) keys (omega arith) in omega arith

pub overflow_add-at : goal.overflow_add-at
overflow_add-at c = let few : count_of c.args.self.octets.now keys < 65536 = rule-few _ (search rules) keys (omega arith) in omega arith

pub slice_bounds-copy_from_slice-end-2 : goal.slice_bounds-copy_from_slice-end-2
slice_bounds-copy_from_slice-end-2 c = let h : site_rule c.args.self.octets.now ≡ true = search rules in omega (arith, key-room _ _ _ h c.requires c.table-all.ensures)

pub returns : goal.returns
unfolding key_at
returns c = search rules
