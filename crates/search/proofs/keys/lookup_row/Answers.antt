-- `search::lookup_row` meets its contract, for every number of octets compared. The outer loop's invariant: the records passed do not fit;
-- the inner loop's: the octets passed agree. Assumes nothing.
use mathlib.Core.Path.{ap}
use mathlib.Core.Bool.{not}
use borrow.Author.Tests.{eq-eqb, ne_eqb}
use Rattle.meaning.specs.Octets.{stands}
use Rattle.meaning.specs.Steps.{lookup_row}
use Rattle.meaning.proofs.Scan.{passed-more, passed-hit, passed-end, is-hit, is-none}
use Rattle.search.proofs.Laws.{lookup-fits, lookup-head-fails, lookup-rest-fails}
use Rattle.search.proofs.keys.lookup_row.Goals as goal
use Rattle.search.proofs.keys.lookup_row.Goals.{then-leads+else-m-j+then-lookups-from, else-leads}

pub returns-then-n-i : goal.returns-then-n-i
unfolding lookup_row
returns-then-n-i c = search is-none

pub loop-j-preserved : goal.loop-j-preserved
loop-j-preserved c = passed-more c.loop-j.invariant c.if-m-j.false (ap not (eq-eqb _ _ c.if-lookups-from.false))

pub records-preserved : goal.records-preserved
unfolding stands
records-preserved c = passed-more c.records.invariant c.if-n-i.false
    (elim c.if-leads.branch [
      | then-leads+else-m-j+then-lookups-from w ↦ lookup-rest-fails _ _ _ _ _ _ (passed-hit w.loop-j.invariant w.if-m-j.false (ap not (ne_eqb _ _ w.if-lookups-from.true)))
      | else-leads w ↦ lookup-head-fails _ _ _ _ _ _ _ c.leads.ensures w.if-leads.false
    ])

pub returns : goal.returns
unfolding lookup_row stands
returns c = is-hit _ _ _ _ _ c.records.invariant c.if-n-i.false
    (lookup-fits _ _ _ _ _ _ _ c.leads.ensures c.if-leads.true (passed-end c.loop-j.invariant c.if-m-j.true))
