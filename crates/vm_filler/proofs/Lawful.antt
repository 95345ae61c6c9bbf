-- The laws of an extension that filling rests on.
use Rattle.air_core.specs.ExtensionLaws.{ExtensionFits, ExtensionBuses, ExtensionRows, ExtensionComplete, ExtensionQuiet}
use Rattle.air_core.specs.System.{System}

pub record Lawful (x : System) : Type 0 where
  pub fits : ExtensionFits x
  pub buses : ExtensionBuses x
  pub rows : ExtensionRows x
  pub complete : ExtensionComplete x
  pub quiet : ExtensionQuiet x
