use mathlib.Core.Path.{ap}
use mathlib.Core.Bool.{not}
use Rattle.schema.proofs.Laws.Keys.{listing, listing_end}
use Rattle.values.proofs.attributes.listed_from.Goals as goal

pub slice_bounds-name_listed-count : goal.slice_bounds-name_listed-count
slice_bounds-name_listed-count c = search listing

pub slice_bounds-name_listed-start : goal.slice_bounds-name_listed-start
slice_bounds-name_listed-start c = search listing

pub slice_bounds-name_listed-end : goal.slice_bounds-name_listed-end
slice_bounds-name_listed-end c = search listing

pub returns-then-not-name_listed : goal.returns-then-not-name_listed
returns-then-not-name_listed c = search listing

pub loop-key-smaller : goal.loop-key-smaller
loop-key-smaller c = search listing

pub loop-key-preserved : goal.loop-key-preserved
loop-key-preserved c = search listing

pub returns : goal.returns
returns c = listing_end c.loop-key.invariant c.tag_ends.ensures (ap not c.loop-key-test.false)

pub loop-key-init : goal.loop-key-init
loop-key-init c = search listing

pub tag_ends-requires : goal.tag_ends-requires
tag_ends-requires c = search listing

pub key_at-requires : goal.key_at-requires
key_at-requires c = search listing

pub name_listed-requires : goal.name_listed-requires
name_listed-requires c = search listing

pub value_end-requires : goal.value_end-requires
value_end-requires c = search listing

pub enum_known-j : goal.enum_known-j
enum_known-j c = search listing

pub enum_told-1 : goal.enum_told-1
enum_told-1 c = search listing

pub returns-in_default : goal.returns-in_default
returns-in_default c = search listing

pub returns-in_default-value_end : goal.returns-in_default-value_end
returns-in_default-value_end c = search listing
