-- What gadget_time says of the meaning of an instruction.
pub use Rattle.gadget_time.specs.lemmas.Meant.{olds_of, means_by, as_many, Recorded, recorded}
