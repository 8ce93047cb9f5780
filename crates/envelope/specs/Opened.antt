-- What `open` answers, by cases of what the input holds: nothing, or the image with its table place. Assumes nothing.
use Rattle.std.specs.Prelude.{Option, None, Some}
use Rattle.pdi_spec.specs.Envelope.{Envelope, bad, holds}
use Rattle.pdi_spec.specs.File.{File}

unfoldable pub opened_as : Envelope → Option File
opened_as bad = None
opened_as (holds f) = Some f
