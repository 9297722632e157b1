mod CompileCalls
mod RunCalls
mod Stopping
