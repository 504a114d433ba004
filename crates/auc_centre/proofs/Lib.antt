mod DeskLemmas
mod StepLemmas
