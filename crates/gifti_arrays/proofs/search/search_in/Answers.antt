use mathlib.Core.Path.{sym}
use lib.Seq.{length-take-le}
use Rattle.gifti_arrays.proofs.Laws.Search.{searching}
use Rattle.gifti_arrays.proofs.search.search_in.Goals as goal

pub first_label-kid-requires : goal.first_label-kid-requires
first_label-kid-requires c = search searching

pub loop-kid-init : goal.loop-kid-init
loop-kid-init c = search searching

pub taken-turn-requires : goal.taken-turn-requires
taken-turn-requires c = search searching

pub slice_bounds-arrays_told-end : goal.slice_bounds-arrays_told-end
slice_bounds-arrays_told-end c = search searching

pub slice_bounds-arrays_told-end-in-loop-kid : goal.slice_bounds-arrays_told-end-in-loop-kid
slice_bounds-arrays_told-end-in-loop-kid c =
    let turn = c.taken-turn in
    sym (length-take-le turn.result.n turn.new.work turn.ensures.inside)

pub arrays_told-told-requires : goal.arrays_told-told-requires
arrays_told-told-requires c = search searching

pub overflow_add-known : goal.overflow_add-known
overflow_add-known c = search searching

pub enum_told-1 : goal.enum_told-1
enum_told-1 c = search searching

pub loop-kid-smaller : goal.loop-kid-smaller
loop-kid-smaller c = search searching

pub loop-kid-preserved : goal.loop-kid-preserved
loop-kid-preserved c = search searching

pub enum_told-in-None : goal.enum_told-in-None
enum_told-in-None c = search searching

pub shape_of-work-in-None : goal.shape_of-work-in-None
shape_of-work-in-None c = search searching

pub returns-in-None : goal.returns-in-None
returns-in-None c = search searching
