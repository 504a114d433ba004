mod BlockLemmas
mod HearingLemmas
