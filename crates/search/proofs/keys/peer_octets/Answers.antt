-- `search::peer_octets` meets its contract: two stores that touch are one, of everything. Assumes nothing.
use Rattle.search.proofs.Laws.{both-stored}
use Rattle.search.proofs.keys.peer_octets.Goals as goal

pub returns : goal.returns
returns c = search both-stored
