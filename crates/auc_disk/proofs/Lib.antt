pub mod Facts
mod CrashLemmas
mod PutLemmas
