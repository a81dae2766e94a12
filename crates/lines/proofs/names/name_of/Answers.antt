-- `names::name_of` meets its contract: each text is the one that the definitions have at the refusal's number. An answer for each: the tactics do not compute a
-- text out of the list of names where only `unfolding` is written on the function. Assumes nothing.
use mathlib.Core.Path.{refl}
use Rattle.meaning.specs.Status.{number}
use Rattle.lines.specs.Text.{name_of}
use Rattle.lines.proofs.names.name_of.Goals as goal

pub returns-in-Site-clause-text : goal.returns-in-Site-clause-text
unfolding name_of number
returns-in-Site-clause-text c = rw c.in-Site.is refl

pub returns-in-Room-clause-text : goal.returns-in-Room-clause-text
unfolding name_of number
returns-in-Room-clause-text c = rw c.in-Room.is refl

pub returns-in-Length-clause-text : goal.returns-in-Length-clause-text
unfolding name_of number
returns-in-Length-clause-text c = rw c.in-Length.is refl

pub returns-in-Fcs-clause-text : goal.returns-in-Fcs-clause-text
unfolding name_of number
returns-in-Fcs-clause-text c = rw c.in-Fcs.is refl

pub returns-in-Malformed-clause-text : goal.returns-in-Malformed-clause-text
unfolding name_of number
returns-in-Malformed-clause-text c = rw c.in-Malformed.is refl

pub returns-in-Filtered-clause-text : goal.returns-in-Filtered-clause-text
unfolding name_of number
returns-in-Filtered-clause-text c = rw c.in-Filtered.is refl

pub returns-in-UnsupportedLegacy-clause-text : goal.returns-in-UnsupportedLegacy-clause-text
unfolding name_of number
returns-in-UnsupportedLegacy-clause-text c = rw c.in-UnsupportedLegacy.is refl

pub returns-in-UnsupportedSecurity-clause-text : goal.returns-in-UnsupportedSecurity-clause-text
unfolding name_of number
returns-in-UnsupportedSecurity-clause-text c = rw c.in-UnsupportedSecurity.is refl

pub returns-in-UnavailableSecurityLevel-clause-text : goal.returns-in-UnavailableSecurityLevel-clause-text
unfolding name_of number
returns-in-UnavailableSecurityLevel-clause-text c = rw c.in-UnavailableSecurityLevel.is refl

pub returns-in-ImproperSecurityLevel-clause-text : goal.returns-in-ImproperSecurityLevel-clause-text
unfolding name_of number
returns-in-ImproperSecurityLevel-clause-text c = rw c.in-ImproperSecurityLevel.is refl

pub returns-in-UnavailableKey-clause-text : goal.returns-in-UnavailableKey-clause-text
unfolding name_of number
returns-in-UnavailableKey-clause-text c = rw c.in-UnavailableKey.is refl

pub returns-in-ImproperKeyType-clause-text : goal.returns-in-ImproperKeyType-clause-text
unfolding name_of number
returns-in-ImproperKeyType-clause-text c = rw c.in-ImproperKeyType.is refl

pub returns-in-UnavailableDevice-clause-text : goal.returns-in-UnavailableDevice-clause-text
unfolding name_of number
returns-in-UnavailableDevice-clause-text c = rw c.in-UnavailableDevice.is refl

pub returns-in-CounterError-clause-text : goal.returns-in-CounterError-clause-text
unfolding name_of number
returns-in-CounterError-clause-text c = rw c.in-CounterError.is refl

pub returns-in-SecurityError-clause-text : goal.returns-in-SecurityError-clause-text
unfolding name_of number
returns-in-SecurityError-clause-text c = rw c.in-SecurityError.is refl

pub returns-in-FrameTooLong-clause-text : goal.returns-in-FrameTooLong-clause-text
unfolding name_of number
returns-in-FrameTooLong-clause-text c = rw c.in-FrameTooLong.is refl

pub returns-in-InvalidParameter-clause-text : goal.returns-in-InvalidParameter-clause-text
unfolding name_of number
returns-in-InvalidParameter-clause-text c = rw c.in-InvalidParameter.is refl
