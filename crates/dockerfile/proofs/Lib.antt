mod DockerfileFacts
mod FaultsFacts
mod OrderFacts
