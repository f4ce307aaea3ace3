-- The vector code of the decoder: masks, the classes of adjacent bytes, windows and the pass over
-- them, and the events of a window.
pub mod MaskBits
pub mod MaskTests
pub mod ThreeMasks
pub mod FormMasks
pub mod MaskCounts
pub mod MaskReturns
pub mod CoveredMasks
pub mod WindowMasks
pub mod LanesByIndex
pub mod TableLookups
pub mod FollowingLanes
pub mod ErrorMasks
pub mod WindowEnds
pub mod WrittenWindows
pub mod Passes
pub mod PaddedWindows
pub mod WindowReturns
pub mod EventBits
pub mod EventsDecoded
pub mod Events
pub mod PackedLanes
pub mod EventsPacked
pub mod EventsRows
