-- `moments::main`: what is written is a part of what `run` filled. Assumes nothing.
use Rattle.moments.proofs.main.Goals as goal

pub slice_bounds-out-end : goal.slice_bounds-out-end
slice_bounds-out-end c = c.run-size.ensures.value.1
