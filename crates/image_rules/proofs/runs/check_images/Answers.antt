-- `image_rules::runs::check_images`: each step follows one image more (ImageRuns.antt). Assumes nothing.
use Rattle.image_rules.proofs.ImageRuns.{onward}
use Rattle.image_rules.proofs.runs.check_images.Goals as goal

pub loop-i-preserved : goal.loop-i-preserved
loop-i-preserved c = onward _ c.loop-i.invariant c.run_at.ensures c.in-Some.is
