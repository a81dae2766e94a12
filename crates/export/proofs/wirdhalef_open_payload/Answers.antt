-- What is answered of a frame that is divided, and of one that is not.
use Rattle.export.proofs.Places.{place-none, place-some, some-bounded}
use Rattle.export.proofs.wirdhalef_open_payload.Goals as goal

pub place_in-requires : goal.place_in-requires
place_in-requires c = some-bounded _ _ _ c.divided.ensures c.in-Some.is

pub returns-in-Some : goal.returns-in-Some
returns-in-Some c = place-some _ _ _ _ c.divided.ensures c.in-Some.is c.place_in.ensures

pub returns-in-None : goal.returns-in-None
returns-in-None c = place-none _ _ c.divided.ensures c.in-None.is
